pub mod Promise
pub mod Parsed
pub mod Pieces
pub mod Refusals
pub mod Showing
pub mod Probing
pub mod Replaying
pub mod Laws
