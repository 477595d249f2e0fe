pub mod OneByOne
pub mod Origin
pub mod Standing
pub mod Written
