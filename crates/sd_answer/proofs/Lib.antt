pub mod Base64Blocks
pub mod Base64Lanes
pub mod Base64Lemmas
pub mod HexLanes
pub mod HexTextLemmas
pub mod HoldsLemmas
pub mod LimitLemmas
pub mod MeaningLemmas
pub mod ReadingLemmas
mod Rows
pub mod laws
