pub mod Knowing
pub mod Covering
pub mod Checking
pub mod Fitted
pub mod Finding
pub mod SeenFiles
