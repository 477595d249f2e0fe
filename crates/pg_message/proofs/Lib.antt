pub mod TextLists
pub mod Merging
pub mod Nothing
pub mod Repeats
