mod Rows
pub mod WalkLemmas
mod WalkRows
pub mod laws
