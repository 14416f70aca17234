pub mod ListLemmas
pub mod NewLemmas
mod Rows
pub mod SizeLemmas
pub mod laws
