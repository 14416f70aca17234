mod Rows
pub mod laws
