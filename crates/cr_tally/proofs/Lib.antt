pub mod Steps
pub mod Lists
pub mod Worths
pub mod Overs
pub mod Whole
pub mod Shows
