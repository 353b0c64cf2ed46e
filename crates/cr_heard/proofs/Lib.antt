pub mod Given
pub mod Named
pub mod ByName
pub mod Seen
pub mod Own
pub mod Standing
pub mod Telling
