pub mod Made
pub mod Named
pub mod Written
pub mod Forward
pub mod Noted
pub mod Writing
