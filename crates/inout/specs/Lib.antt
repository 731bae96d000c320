pub mod Moments
pub mod Quoted
pub mod Stored
