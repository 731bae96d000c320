pub use Rattle.reasons.specs.Stops
pub mod Places
pub mod Signed
pub mod Whys
