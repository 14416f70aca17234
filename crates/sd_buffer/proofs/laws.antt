-- Laws of the definitions alone, which crates above may cite.
pub mod Base64Bytes
pub mod HexPairs
pub mod Lanes
pub mod Slices
pub mod SpelledBase64
