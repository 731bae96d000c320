pub mod Open
pub mod Paths
