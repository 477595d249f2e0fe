pub mod Reading
pub mod Ordered
pub mod Owned
pub mod Comparing
