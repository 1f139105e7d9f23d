pub mod Count
pub mod Parse
