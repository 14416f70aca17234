-- What private contracts cite. No definition rests on this file.
pub mod AceEnds
