pub use Rattle.keys.specs.Keys
pub use Rattle.moment.specs.Moment
pub use Rattle.meta.specs.Metadata
pub use Rattle.meta.specs.Content
pub mod Checks
pub mod Examined
