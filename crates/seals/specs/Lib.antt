pub use Rattle.cjson.specs.Canon
pub use Rattle.cjson.specs.Form
pub use Rattle.lms.specs.Lms
pub use Rattle.lms.specs.Signer
pub mod Sealed
