pub mod Lines
pub mod Headings
pub mod Cases
pub mod Names
pub mod Wanted
