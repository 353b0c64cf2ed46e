pub mod Bad
pub mod Brought
