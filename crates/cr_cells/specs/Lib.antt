pub mod Holding
pub mod Pages
pub mod Tables
pub mod Marks
pub mod Commit
pub mod Calls
pub mod Plain
pub mod Advance
