pub mod BlockLemmas
mod Rows
pub mod LookLemmas
pub mod TokenLemmas
pub mod laws
