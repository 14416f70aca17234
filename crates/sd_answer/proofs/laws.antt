-- Laws of the definitions alone, which crates above may cite.
pub mod LineEnds
pub mod ShortAnswers
