pub mod Laws
pub mod Left
pub mod Writers
pub mod Loops
pub mod Groups
pub mod Scopes
