pub mod BuildingLaws
pub mod CountingLaws
pub mod DerivedLaws
pub mod OriginFacts
mod Rows
pub mod laws
