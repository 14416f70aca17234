pub mod FieldReading
pub mod FoldedReading
pub mod Inner
pub mod Line
pub mod Meaning
pub mod NamedSid
pub mod WholeAce
