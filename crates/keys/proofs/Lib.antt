pub mod Found
pub mod Decoded
mod WorkedValues
pub mod Sets
