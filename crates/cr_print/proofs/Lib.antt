pub mod Loops
pub mod Nodes
pub mod Quotes
pub mod Steps
