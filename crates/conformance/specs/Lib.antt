pub mod Room
pub mod Vectors
