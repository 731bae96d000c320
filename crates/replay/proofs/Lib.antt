pub mod Causing
pub mod Cycling
pub mod Places
