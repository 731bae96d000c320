pub mod Lists
pub mod Missing
pub mod Stopping
pub mod Refusing
pub mod Laws
pub mod Settling
pub mod Staying
pub mod Answering
