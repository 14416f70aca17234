pub mod Inner
pub mod SddlReading
