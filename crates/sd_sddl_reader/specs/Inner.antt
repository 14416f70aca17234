-- What private contracts and invariants cite. No definition rests on these files.
pub mod Heads
pub mod Progress
pub mod Reads
pub mod WholePart
