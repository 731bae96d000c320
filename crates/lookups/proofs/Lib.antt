pub mod Reading
pub mod Settling
