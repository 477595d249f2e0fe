pub mod Calm
pub mod Once
pub mod Nodes
pub mod Parts
pub mod Repeats
pub mod RowSteps
pub mod Runs
pub mod Texts
