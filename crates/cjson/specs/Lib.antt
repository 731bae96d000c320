pub mod Form
pub mod Document
pub mod Canon
pub mod Tree
pub mod Names
pub mod Entries
pub mod formers
