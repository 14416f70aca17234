-- What private contracts and invariants cite. No definition rests on these files.
pub mod Adding
pub mod Building
pub mod Choosing
pub mod ErrorEnds
pub mod Given
