pub mod Verdicts
pub mod LeafVerdicts
pub mod OneMore
pub mod Told
pub mod Alternatives
pub mod LoopArms
pub mod Shapes
pub mod RightPlans
