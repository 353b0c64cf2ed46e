pub mod Wants
pub mod Open
