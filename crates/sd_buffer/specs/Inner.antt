-- What private contracts and invariants cite. No definition rests on these files.
pub mod Base64Blocks
pub mod HexBlocks
pub mod HexPairs
