pub mod Readings
pub mod Single
pub mod Sources
