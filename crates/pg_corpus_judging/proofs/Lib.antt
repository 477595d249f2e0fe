pub mod Messages
pub mod OneEnd
pub mod Trials
