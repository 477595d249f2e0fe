pub mod Names
pub mod Meaning
pub mod Bodies
pub mod Spans
