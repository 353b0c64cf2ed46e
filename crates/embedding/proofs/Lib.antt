pub mod Counting
pub mod Cutting
pub mod Passing
