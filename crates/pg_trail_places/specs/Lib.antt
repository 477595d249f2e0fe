pub mod PlacedTrees
pub mod PlacedJson
pub mod Pieces
pub mod Reading
pub mod Order
pub mod Positions
