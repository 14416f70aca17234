-- Descriptors explained.
pub mod Numbered
mod Rows
pub mod laws
