pub mod Gathered
pub mod Keys
pub mod Packs
pub mod Puts
pub mod Pins
pub mod LeftOut
pub mod Joins
pub mod Lists
pub mod Answers
pub mod Made
pub mod Writes
mod Examples
