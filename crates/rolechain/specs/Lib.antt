pub use Rattle.meta.specs.Metadata
pub use Rattle.moment.specs.Moment
pub use Rattle.meta.specs.Content
pub use Rattle.examine.specs.Checks
pub mod Advance
pub mod Headers
pub mod Kept
pub mod Text
