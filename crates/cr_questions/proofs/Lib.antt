pub mod Folds
pub mod Firsts
pub mod Columns
pub mod Collected
pub mod Denials
pub mod Wholes
pub mod Selects
