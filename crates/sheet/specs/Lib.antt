pub mod Written
pub mod Writers
pub mod Rewritten
pub mod Canonical
pub mod Show
pub mod Cases
