mod WorkedValues
pub mod Stamps
