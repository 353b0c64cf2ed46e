pub mod Parts
pub mod Touches
pub mod Tables
pub mod Twice
pub mod NewlyKept
pub mod Keys
pub mod Sets
pub mod Shown
pub mod Inserts
pub mod Unpacked
pub mod Wants
mod Examples
