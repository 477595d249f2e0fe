pub mod SaidRead
pub mod LevelStack
pub mod LevelSteps
pub mod RowSteps
pub mod TogetherRows
