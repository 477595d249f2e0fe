pub mod Added
pub mod Cut
