pub mod Selecting
pub mod Allowing
