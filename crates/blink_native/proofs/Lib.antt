pub mod Flag
pub mod Nan
pub mod Claims
pub mod Told
pub mod Steps
