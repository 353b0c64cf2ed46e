pub mod Committing
pub mod Definitions
pub mod Shown
pub mod Above
pub mod Settling
