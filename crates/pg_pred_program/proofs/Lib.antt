pub mod Sets
pub mod Offered
