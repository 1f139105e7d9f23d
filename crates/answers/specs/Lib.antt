pub mod Outcomes
pub mod Faults
