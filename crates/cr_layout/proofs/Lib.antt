pub mod Columns
pub mod Loop
