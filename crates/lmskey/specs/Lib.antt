pub mod Statuses
pub mod Records
