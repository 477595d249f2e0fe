pub mod Puts
pub mod Pieces
