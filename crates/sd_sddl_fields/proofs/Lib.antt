pub mod Cuts
mod Rows
pub mod laws
