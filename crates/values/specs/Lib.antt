pub mod Calendar
pub mod Spelling
pub mod Times
pub mod Characters
pub mod Cases
pub mod Claims
