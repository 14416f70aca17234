pub mod Answers
pub mod Held
pub mod Inner
pub mod Lines
pub mod Outcome
pub mod Splits
pub mod Told
