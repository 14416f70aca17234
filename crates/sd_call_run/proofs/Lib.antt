pub mod BatchLemmas
mod Rows
pub mod WordsLemmas
