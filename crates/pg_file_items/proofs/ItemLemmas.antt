-- What is so of items in preorder: whole forms one after another, and sizes that are counted.
pub mod Whole
pub mod Classes
pub mod Counted
pub mod Backwards
pub mod Joined
