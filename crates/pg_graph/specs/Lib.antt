pub mod Graphs
pub mod Marks
pub mod Walk
pub mod Spread
