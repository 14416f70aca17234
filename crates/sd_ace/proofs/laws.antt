-- Laws of the definitions alone, which crates above may cite.
pub mod AceSizes
pub mod GuidLimits
pub mod GuidTexts
pub mod WorkedGuids
