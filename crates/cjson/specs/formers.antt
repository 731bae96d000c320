pub mod sorted
