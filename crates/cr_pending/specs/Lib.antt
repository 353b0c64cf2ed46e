pub mod Errors
pub mod Pending
pub mod Touched
