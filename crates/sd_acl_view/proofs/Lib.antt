pub mod BodyLaws
pub mod ReadableAces
mod ShowsRows
pub mod SidPlace
pub mod WrittenLaws
pub mod laws
