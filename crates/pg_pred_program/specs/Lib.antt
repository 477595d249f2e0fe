pub mod Categories
pub mod Kinds
pub mod Builders
pub mod ProgramOffer
