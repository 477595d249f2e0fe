pub mod LexerLemmas
pub mod Encoded
