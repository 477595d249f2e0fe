-- What is so of tokens that are laid out, and of parts that nest.
pub mod Tokens
pub mod Texts
pub mod Nested
pub mod Classes
pub mod Names
pub mod Writing
pub mod Bodies
pub mod Grammars
