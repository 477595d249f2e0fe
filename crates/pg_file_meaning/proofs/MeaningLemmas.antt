-- What is so of names that are looked up, and of forms in preorder beside the trees that they are of.
pub mod Lookup
pub mod Classes
pub mod Bodies
pub mod Sizes
pub mod Composing
pub mod ProperClasses
pub mod Sound
pub mod Faultless
pub mod Placed
pub mod Meant
pub mod Proper
