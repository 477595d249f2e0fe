pub mod Classes
pub mod Sets
pub mod Contents
pub mod Alike
