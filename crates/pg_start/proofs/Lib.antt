pub mod Ahead
pub mod Keys
pub mod Runs
pub mod Meeting
pub mod Tested
