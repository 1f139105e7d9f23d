pub mod Records
pub mod Symbols
pub mod Types
pub mod Groups
pub mod Depth
pub mod Claims
pub mod Forms
pub mod Numbered
