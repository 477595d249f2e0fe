pub mod Steps
pub mod Judge
