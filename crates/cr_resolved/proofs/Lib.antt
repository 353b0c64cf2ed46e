pub mod Steps
pub mod Nodes
pub mod Outside
pub mod Verdicts
pub mod Seen
