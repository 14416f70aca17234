pub mod Edit
pub mod Input
pub mod OrderTold
