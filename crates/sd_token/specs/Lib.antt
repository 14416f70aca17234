pub mod Inner
pub mod Limits
pub mod Token
pub mod TokenWords
