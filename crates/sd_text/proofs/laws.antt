-- Laws of the definitions alone, which crates above may cite.
pub mod Bits
pub mod Bools
pub mod Capitals
pub mod HexDigits
pub mod NameCells
pub mod NameLaws
pub mod Options
pub mod Tables
pub mod UsualTexts
