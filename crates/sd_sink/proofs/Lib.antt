pub mod HeldLemmas
mod Rows
pub mod laws
