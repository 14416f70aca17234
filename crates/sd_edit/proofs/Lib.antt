pub mod ChangeLemmas
pub mod OrderLemmas
mod Rows
pub mod SizeLemmas
pub mod WalkLemmas
pub mod laws
