pub mod Members
mod OneByOne
pub mod Negated
pub mod Items
pub mod Numbers
pub mod Sites
