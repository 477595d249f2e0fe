pub mod Lookup
pub mod Each
pub mod Preorder
