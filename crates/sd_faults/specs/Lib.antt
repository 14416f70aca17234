pub mod FaultNames
pub mod Faults
pub mod Meanings
