pub mod Blocked
pub mod Bounds
pub mod Files
pub mod Locks
