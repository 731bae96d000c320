pub use Rattle.cycle.specs.Workflow
pub mod Needs
pub mod Laws
pub mod Glue
