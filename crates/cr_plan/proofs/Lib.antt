pub mod Compared
pub mod Misses
pub mod Placing
pub mod Plans
mod Examples
