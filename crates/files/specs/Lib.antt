pub mod Identities
pub mod Paths
