pub mod EditLaws
pub mod OrderLaws
