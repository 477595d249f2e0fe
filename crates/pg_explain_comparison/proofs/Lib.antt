pub mod More
pub mod Read
