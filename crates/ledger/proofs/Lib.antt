pub mod Laws
pub mod Own
pub mod Claims
