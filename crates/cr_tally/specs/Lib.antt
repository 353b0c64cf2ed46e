pub mod Showing
pub mod Over
pub mod Tallies
pub mod Queries
