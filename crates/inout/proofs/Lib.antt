pub mod Spelling
mod WorkedValues
