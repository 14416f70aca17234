pub mod FieldLaws
mod LineRows
pub mod MeansLimits
mod NameTexts
pub mod TrusteeLaws
pub mod WholeFields
pub mod laws
