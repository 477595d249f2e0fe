pub mod Prefixes
pub mod Starts
pub mod Apart
