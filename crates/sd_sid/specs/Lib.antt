pub mod Account
pub mod Inner
pub mod KeptDomain
pub mod Naming
pub mod Sid
pub mod SidText
