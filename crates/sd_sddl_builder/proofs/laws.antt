-- Laws of the definitions alone, which crates above may cite.
pub mod ControlFlags
pub mod FieldParts
pub mod FoldedMeaning
pub mod FoldedSections
pub mod Heads
pub mod MeaningLimits
pub mod SeenLaws
pub mod WholeTexts
