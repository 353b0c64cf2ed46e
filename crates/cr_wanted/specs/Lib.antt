pub mod Rows
pub mod Judged
