pub mod Bytes
pub mod Utf8
pub mod Scan
pub mod Edges
