mod KnownCounts
mod KnownNames
mod RelativeNumbers
pub mod ViewLemmas
