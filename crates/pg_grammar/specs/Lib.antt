pub mod Made
pub mod Numbering
pub mod Capacity
