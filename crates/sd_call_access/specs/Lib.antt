pub mod Checks
pub mod Derivations
pub mod DerivedMany
pub mod Many
pub mod OriginsTold
pub mod Reasons
pub mod TokenMemory
