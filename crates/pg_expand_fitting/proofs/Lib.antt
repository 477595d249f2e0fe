pub mod Waiting
pub mod Places
pub mod Stack
pub mod Found
pub mod Complete
pub mod Sound
