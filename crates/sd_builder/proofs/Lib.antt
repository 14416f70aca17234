pub mod Building
pub mod Finished
pub mod Order
pub mod PlainAces
mod Rows
pub mod Standing
pub mod laws
