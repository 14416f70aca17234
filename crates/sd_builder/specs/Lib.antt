pub mod Builds
pub mod Draft
pub mod Inner
pub mod Trustee
