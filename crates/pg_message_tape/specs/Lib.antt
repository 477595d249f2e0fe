pub mod Messages
pub mod Repeats
pub mod TapeErrors
