pub mod Found
pub mod Roles
