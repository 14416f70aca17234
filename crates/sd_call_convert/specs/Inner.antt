-- What private contracts and invariants cite. No definition rests on these files.
pub mod Column
