pub mod Ace
pub mod Acl
pub mod AclChecks
pub mod AclLayout
pub mod AclReading
pub mod Bytes
pub mod Inner
