pub mod AnswerLemmas
pub mod laws
