pub mod Keywords
pub mod Proper
