pub mod Build
pub mod New
