pub mod Reading
pub mod ItemReading
pub mod Rests
pub mod Given
pub mod Places
pub mod Limits
pub mod Items
