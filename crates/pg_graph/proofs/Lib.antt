pub mod Lists
pub mod Marking
pub mod Walking
pub mod Joining
pub mod Growing
pub mod HandingOn
pub mod Spreading
