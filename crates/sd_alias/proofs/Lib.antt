pub mod AliasPlaces
pub mod Values
