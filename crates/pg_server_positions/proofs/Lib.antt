mod Leading
pub mod Again
pub mod Stepping
