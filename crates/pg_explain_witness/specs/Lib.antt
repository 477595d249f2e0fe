pub mod Going
pub mod Running
pub mod Losing
pub mod Stopping
pub mod Shown
pub mod Witnesses
