pub mod Merged
pub mod Renamed
pub mod Repeats
