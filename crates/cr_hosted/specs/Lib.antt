pub mod Hosted
pub mod Planned
