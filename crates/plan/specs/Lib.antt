pub mod Bound
pub mod Questions
