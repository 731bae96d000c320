pub mod Along
pub mod Plain
pub mod Told
pub mod Roled
pub mod Found
pub mod Whole
mod WorkedValues
