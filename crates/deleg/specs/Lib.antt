pub mod Search
pub mod Cache
pub mod Glue
