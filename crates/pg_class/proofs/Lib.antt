pub mod Disjoint
pub mod Equal
pub mod Gaps
pub mod Joins
pub mod Search
pub mod Unique
pub mod Within
