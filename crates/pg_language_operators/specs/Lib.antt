pub mod Standings
pub mod RowRoles
