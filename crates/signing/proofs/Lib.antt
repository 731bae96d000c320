pub mod Counts
pub mod Files
pub mod Joined
pub mod Lengths
pub mod OwnKeys
pub mod Reasons
