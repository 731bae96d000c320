pub mod Keys
pub use Rattle.cjson.specs.Document
pub use Rattle.cjson.specs.Form
pub use Rattle.lms.specs.Lms
