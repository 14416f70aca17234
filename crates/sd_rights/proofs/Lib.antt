mod FrontMasks
pub mod MaskNumbers
mod NameRows
pub mod laws
