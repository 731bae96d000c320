pub mod Order
pub mod Unique
pub mod Trees
mod Views
mod Named
mod Reading
pub mod Before
pub mod Ordered
pub mod OnLiterals
pub mod WorkedValues
pub mod Utf8
