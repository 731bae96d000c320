pub use Rattle.rolechain.specs.Advance
pub use Rattle.signing.specs.Signers
pub mod Reasons
pub mod Stops
pub mod Targets
