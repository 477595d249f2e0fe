pub mod Verified
pub mod Own
pub mod Certified
