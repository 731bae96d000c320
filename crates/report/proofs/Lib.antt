mod Numbered
mod Paths
mod WorkedValues
