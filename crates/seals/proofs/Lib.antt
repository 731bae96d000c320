pub mod WorkedValues
pub mod Seals
