mod AceRows
mod GuidRows
pub mod laws
