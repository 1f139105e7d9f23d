pub mod Numbers
pub mod Items
pub mod Done
pub mod Read
pub mod Opened
pub mod Found
pub mod Alike
pub mod Listed
