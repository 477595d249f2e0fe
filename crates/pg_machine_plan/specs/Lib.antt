pub mod Facts
pub mod Verdicts
pub mod Columns
pub mod Plans
pub mod Layout
pub mod Judged
