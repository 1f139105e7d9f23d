pub mod Item
pub mod Number
pub mod Part
pub mod Laid
pub mod Listed
pub mod Cases
