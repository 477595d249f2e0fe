pub mod Spells
pub mod Making
pub mod Spans
