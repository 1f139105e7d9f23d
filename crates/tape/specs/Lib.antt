pub mod Tape
pub mod Hands
pub mod Claims
pub mod Cases
