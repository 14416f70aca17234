-- Laws of the definitions alone, which crates above may cite.
pub mod FrontLaws
pub mod RowLaws
