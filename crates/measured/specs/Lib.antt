pub use Rattle.cycle.specs.Workflow
pub use Rattle.folder.specs.Seen
pub mod Closed
pub mod Copied
pub mod Known
