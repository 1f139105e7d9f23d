pub mod Limbs
pub mod Shortest
