pub mod Options
pub mod Stops
pub mod Laws
