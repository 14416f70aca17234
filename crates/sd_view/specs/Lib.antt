pub mod Descriptor
pub mod Inner
pub mod Layout
pub mod Reading
pub mod WrittenForm
