pub mod AccountTexts
pub mod AliasLemmas
pub mod Cutting
pub mod FormLemmas
pub mod KeptTexts
pub mod SidFronts
mod SidRows
pub mod UsualNumbers
pub mod Words
pub mod laws
