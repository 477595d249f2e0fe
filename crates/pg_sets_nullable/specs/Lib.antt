pub mod NodeMarks
pub mod Nullable
pub mod Reached
pub mod Ranks
pub mod Parts
pub mod Ranking
