pub mod Told
pub mod Seeking
