pub mod Values
pub mod Division
