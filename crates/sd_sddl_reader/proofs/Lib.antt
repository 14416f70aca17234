pub mod Ends
pub mod FieldTexts
pub mod FitLaws
pub mod HeadRows
pub mod Runs
pub mod Steps
pub mod WholeFields
pub mod WholeParts
