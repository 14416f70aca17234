pub mod FieldFronts
pub mod FieldTexts
pub mod Held
pub mod Inner
