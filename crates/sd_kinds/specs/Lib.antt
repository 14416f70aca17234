pub mod FlagValues
pub mod Flags
pub mod KindValues
pub mod Kinds
