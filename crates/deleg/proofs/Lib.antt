pub mod Bins
pub mod Patterns
pub mod Walking
pub mod Versions
pub mod Stack
pub mod Starting
pub mod WorkedValues
pub mod Caching
