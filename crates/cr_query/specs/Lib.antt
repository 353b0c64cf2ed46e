pub mod Queries
pub mod Query
pub mod Plans
pub mod Writes
pub mod Faults
