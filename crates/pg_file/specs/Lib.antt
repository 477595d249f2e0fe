pub mod Texts
pub mod Syntax
pub mod Answers
pub mod Refusals
