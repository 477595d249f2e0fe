pub mod Tables
pub mod Rows
pub mod Fitting
pub mod Trails
pub mod FaultLabels
