pub mod Control
pub mod Header
pub mod Limits
pub mod Parts
