pub mod Equals
pub mod Keys
