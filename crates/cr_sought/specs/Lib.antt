pub mod Sought
pub mod Lists
pub mod Laws
pub mod Writes
pub mod Bounds
pub mod Joins
