pub mod Cycles
pub mod Growing
pub mod Sizing
pub mod Levels
pub mod Fixed
pub mod Existing
pub mod Marks
