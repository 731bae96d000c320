pub mod Documents
pub mod Failing
pub mod Usable
