pub mod Changed
pub mod Steps
