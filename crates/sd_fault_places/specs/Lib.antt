pub mod Fields
pub mod Inner
pub mod Places
pub mod SddlPlaces
pub mod Shape
