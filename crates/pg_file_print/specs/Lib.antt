pub mod Canonical
pub mod Printed
pub mod Layout
pub mod Levels
