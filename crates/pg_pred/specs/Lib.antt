pub mod Tells
pub mod Makes
pub mod Names
pub mod Offer
