pub mod Inverse
pub mod Naming
pub mod Parting
mod WorkedValues
