-- What the code has built in the middle of a derivation. No definition rests on this file.
pub mod Building
pub mod Counting
