pub mod Counts
pub mod Print
pub mod Sink
