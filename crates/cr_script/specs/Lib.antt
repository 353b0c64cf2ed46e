pub mod Speaking
pub mod Scripts
pub mod Hearing
