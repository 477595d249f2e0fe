pub mod Tokens
pub mod Steps
pub mod Placing
pub mod Places
