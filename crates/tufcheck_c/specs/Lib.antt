pub use Rattle.embed.specs.Outcomes
pub mod Answers
