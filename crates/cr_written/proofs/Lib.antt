pub mod Loops
pub mod Columns
pub mod Wholes
