pub mod Casts
pub mod Fits
