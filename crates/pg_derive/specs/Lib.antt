pub mod Laws
pub mod Chains
pub mod ClosedSets
pub mod Predictive
pub mod PredictiveLaws
pub mod WholeTextLaws
pub mod LeastSets
pub mod Accepted
