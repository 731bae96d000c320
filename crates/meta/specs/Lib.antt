pub use Rattle.keys.specs.Keys
pub use Rattle.moment.specs.Moment
pub mod Content
pub mod Patterns
pub mod Metadata
pub mod Catalog
