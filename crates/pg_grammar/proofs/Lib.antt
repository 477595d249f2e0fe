pub mod Numbers
pub mod Making
pub mod After
pub mod Unique
pub mod Going
