pub mod Parts
pub mod Tables
pub mod Touched
pub mod Shown
pub mod Inserts
