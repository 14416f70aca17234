pub mod Arguments
pub mod Columns
pub mod Contents
pub mod FaultNames
pub mod Outcomes
pub mod Places
pub mod Walk
