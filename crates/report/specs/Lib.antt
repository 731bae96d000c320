pub mod Lines
pub mod Shown
pub mod Whys
pub mod Fetching
