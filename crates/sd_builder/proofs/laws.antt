-- Laws of the definitions alone, which crates above may cite.
pub mod AclLayoutLaws
pub mod BuiltBytes
pub mod LayoutLaws
