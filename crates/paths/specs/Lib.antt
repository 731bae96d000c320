pub mod Lists
pub mod Names
