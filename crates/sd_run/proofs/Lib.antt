pub mod AfterBytesLemmas
pub mod AnswersLemmas
pub mod CreatorLemmas
pub mod DrainLemmas
pub mod FirstLineLemmas
pub mod LineCutLemmas
mod Rows
pub mod RunLemmas
pub mod SplitsLemmas
