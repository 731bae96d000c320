pub use Rattle.cycle.specs.Workflow
pub mod Lookups
