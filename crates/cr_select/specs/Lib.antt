pub mod Tests
pub mod Outputs
pub mod Joins
pub mod Aggregates
pub mod Terms
pub mod Named
pub mod Placed
