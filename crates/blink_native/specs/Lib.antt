pub mod Boundary
pub mod Claims
