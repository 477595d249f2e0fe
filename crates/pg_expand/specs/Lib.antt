pub mod Readings
pub mod Rows
pub mod RowGrammar
pub mod Lookups
pub mod Laws
