-- What the lexer's proofs share.
pub mod Hex
pub mod Runs
pub mod Turns
pub mod Prefixes
pub mod Sound
pub mod Complete
pub mod Places
pub mod Exact
