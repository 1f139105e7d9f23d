pub mod Text
pub mod Conforms
pub mod Lists
pub mod Proper
pub mod Ignorable
pub mod Packed
pub mod Cases
