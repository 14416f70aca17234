pub mod BlockDigits
pub mod DigitLemmas
pub mod EightDigits
pub mod FrontDigits
pub mod HexNumber
pub mod MovedDigits
pub mod NumberLemmas
mod Rows
pub mod laws
