pub mod Outcomes
pub mod CheckedRuns
pub mod Laws
pub mod Treeless
