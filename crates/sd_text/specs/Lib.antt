-- What the definitions of all texts share.
pub mod Bits
pub mod Chains
pub mod Cuts
pub mod Inner
pub mod LimitValues
pub mod Limits
pub mod Names
pub mod Numbers
pub mod Usual
