pub mod Positions
pub mod Again
