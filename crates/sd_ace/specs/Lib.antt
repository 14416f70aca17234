pub mod Ace
pub mod AceHead
pub mod AceLayout
pub mod GuidText
