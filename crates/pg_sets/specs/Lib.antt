pub mod First
pub mod Follow
pub mod Flows
pub mod Sources
pub mod Origins
pub mod Sets
