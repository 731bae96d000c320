pub mod Law
mod WorkedValues
