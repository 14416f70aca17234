mod CheckRows
mod CountLemmas
mod DeriveRows
pub mod DerivedLemmas
pub mod ManyLemmas
mod ManyRows
pub mod MemoryLemmas
pub mod ReasonLemmas
pub mod TokenLemmas
pub mod laws
