pub mod Entries
pub mod Folding
