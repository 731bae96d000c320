pub use Rattle.examine.specs.Checks
pub use Rattle.rolechain.specs.Advance
pub use Rattle.cycle.specs.Workflow
pub mod Jobs
pub mod Inputs
pub mod Rows
pub mod Outcomes
pub mod Trusted
