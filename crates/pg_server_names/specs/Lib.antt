pub mod Surroundings
pub mod Senses
pub mod Asked
pub mod Renaming
