pub mod Courses
pub mod Files
pub mod Indices
pub mod Targets
pub mod Verdicts
