-- Laws of the definitions alone, which crates above may cite.
pub mod AliasLaws
pub mod AliasNames
pub mod Everyone
pub mod Numbers
pub mod ReadLimits
pub mod SidLaws
pub mod TextLaws
