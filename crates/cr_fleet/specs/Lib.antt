pub mod Fleets
pub mod Hearing
pub mod Pulls
pub mod Between
pub mod Running
