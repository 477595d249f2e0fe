pub mod Bits
pub mod Uniting
pub mod Meeting
pub mod Halves
pub mod Counting
pub mod Inside
