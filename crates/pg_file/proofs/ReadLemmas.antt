-- What is so of a grammar that was read: its tokens are good ones, it keeps the limits, and the registry fits it; and of a
-- file that was refused.
pub mod Good
pub mod Few
pub mod Fitting
pub mod Spelled
pub mod Unique
pub mod Refused
pub mod NodeSpans
