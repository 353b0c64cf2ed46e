pub mod Folded
pub mod Fit
pub mod Suited
