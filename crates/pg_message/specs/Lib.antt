pub mod Messages
pub mod Errors
pub mod Printed
