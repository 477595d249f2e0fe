pub mod Grammar
pub mod Follows
pub mod Fits
pub mod Membership
pub mod Sites
