pub mod AliasValues
pub mod Inner
pub mod NameOfSid
pub mod Names
