-- Laws of the definitions alone, which crates above may cite.
pub mod PrintLemmas
pub mod PrintLoops
pub mod SinkLemmas
