-- What is so of items that are handed to a maker, one after another.
pub mod Entries
pub mod Growth
pub mod Proper
pub mod Refused
pub mod Finished
pub mod Turns
