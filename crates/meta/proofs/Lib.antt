pub mod Ascending
pub mod Hashed
mod WorkedValues
