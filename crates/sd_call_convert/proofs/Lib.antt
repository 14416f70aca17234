mod ConvertRows
pub mod DescribedLemmas
pub mod ManyLemmas
pub mod NameLemmas
pub mod PartLemmas
mod SidRows
mod TextRows
