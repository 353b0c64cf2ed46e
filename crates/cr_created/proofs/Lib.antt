pub mod Drafted
pub mod Defined
pub mod Repeats
