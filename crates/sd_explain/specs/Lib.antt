-- Descriptors explained.
pub mod Explain
