pub mod EndsLemmas
pub mod GivenLemmas
pub mod LineLemmas
mod LineRows
pub mod ParseLemmas
mod Rows
pub mod TokenLemmas
