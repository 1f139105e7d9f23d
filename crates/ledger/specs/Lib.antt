pub mod Ledger
pub mod Claims
pub mod Cases
