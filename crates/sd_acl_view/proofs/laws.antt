-- Laws of the definitions alone, which crates above may cite.
pub mod AceLists
pub mod AclLaws
pub mod AclLayoutSizes
pub mod FirstFault
pub mod NumberLaws
