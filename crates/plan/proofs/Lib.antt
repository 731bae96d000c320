pub mod Drafting
pub mod Indexes
pub mod Spending
pub mod Truths
