pub mod Masks
pub mod ReasonLaws
mod Rows
pub mod ScanLaws
pub mod VerdictLaws
