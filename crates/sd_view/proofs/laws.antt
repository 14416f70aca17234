-- Laws of the definitions alone, which crates above may cite.
pub mod ApartLaws
pub mod LaidOut
pub mod LayoutSizes
pub mod Places
pub mod ReadingLaws
pub mod SizeLaws
