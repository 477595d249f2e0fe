pub mod ReadLemmas
pub mod AgainLemmas
