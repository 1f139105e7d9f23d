pub mod Laws
pub mod Added
pub mod Claims
