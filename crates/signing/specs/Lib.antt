pub mod Attached
pub mod Drafts
pub mod Invalids
pub mod NewKeys
pub mod Octets
pub mod Signers
