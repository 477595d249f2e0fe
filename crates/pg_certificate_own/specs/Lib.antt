pub mod Least
pub mod Claimed
pub mod Own
