pub mod BuiltIn
pub mod Meets
pub mod Names
pub mod Orders
pub mod Registry
pub mod Samples
