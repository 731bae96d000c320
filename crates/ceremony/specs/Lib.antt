pub mod Entered
pub mod KeyFiles
pub mod Printed
pub mod Required
pub mod SignedBy
pub mod Texts
