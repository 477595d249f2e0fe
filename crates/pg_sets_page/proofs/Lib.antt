pub mod Ranges
pub mod SetsShown
