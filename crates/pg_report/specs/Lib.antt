pub mod Status
pub mod Texts
pub mod Files
pub mod Codes
