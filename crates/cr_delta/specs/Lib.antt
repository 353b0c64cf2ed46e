pub mod Key
pub mod Delta
pub mod Wanted
pub mod Adds
pub mod Run
pub mod Steps
