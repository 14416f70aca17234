pub mod Base64Blocks
pub mod Base64Values
pub mod Decoded
pub mod HexBlocks
pub mod HexReadingLaws
pub mod laws
