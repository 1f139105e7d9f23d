pub mod Occupancy
pub mod Sheet
pub mod Walk
pub mod Count
pub mod Check
pub mod Scopes
