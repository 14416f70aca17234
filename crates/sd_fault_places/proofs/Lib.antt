pub mod FaultyAces
pub mod FirstFaults
pub mod Ranges
mod Rows
pub mod SidOffsets
mod LargeRows
mod SddlRows
pub mod Cuttings
pub mod Faults
pub mod Shapes
pub mod Steps
pub mod Trims
pub mod Walks
