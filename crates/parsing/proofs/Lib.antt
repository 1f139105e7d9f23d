pub mod Answers
pub mod Records
pub mod Values
pub mod Loops
pub mod Fields
pub mod Groups
pub mod Scopes
