-- Laws of the definitions alone, which crates above may cite.
pub mod FlagRuns
pub mod HeldRuns
pub mod PlainFields
