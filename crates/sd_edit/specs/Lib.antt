pub mod Edits
pub mod Lists
pub mod Matching
pub mod Order
pub mod Setting
pub mod Shown
