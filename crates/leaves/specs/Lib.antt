pub mod Leaves
pub mod Disk
pub mod Log
pub mod Runs
pub mod Reserved
