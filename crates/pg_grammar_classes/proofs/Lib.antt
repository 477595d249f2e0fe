pub mod ClassStack
pub mod Sets
pub mod Contents
