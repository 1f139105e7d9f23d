pub mod Index
pub mod Measure
pub mod Claims
