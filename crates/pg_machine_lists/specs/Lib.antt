pub mod RunTrees
pub mod TapeLevels
pub mod ViewLevels
