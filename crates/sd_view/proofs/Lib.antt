pub mod Parts
pub mod ReadLaws
mod ShowsRows
pub mod laws
