pub mod Grouping
pub mod Finished
