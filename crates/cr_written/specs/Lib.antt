pub mod Targets
pub mod Parts
pub mod Updates
