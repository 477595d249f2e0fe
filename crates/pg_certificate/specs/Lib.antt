pub mod Readings
pub mod Claims
pub mod Certificates
pub mod Values
pub mod Fitting
