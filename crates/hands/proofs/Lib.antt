pub mod Deals
pub mod PartLemmas
pub mod Sharing
pub mod Trying
pub mod Turning
mod WorkedValues
