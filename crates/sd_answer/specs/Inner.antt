-- What private contracts and invariants cite. No definition rests on these files but `LineInHand`, whose insides a
-- caller never sees.
pub mod Printing
pub mod Reading
