pub mod TrailJson
pub mod Readings
pub mod Ahead
pub mod Choices
pub mod Storable
