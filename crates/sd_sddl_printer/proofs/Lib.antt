pub mod AceTexts
pub mod BackLaws
pub mod FieldsBack
pub mod LineCuts
pub mod LineFields
pub mod PartsBack
pub mod PlainTexts
mod Rows
pub mod laws
