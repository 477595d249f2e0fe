pub mod Steps
pub mod Costs
pub mod StepCost
pub mod Rounds
pub mod Levels
pub mod FoundCost
