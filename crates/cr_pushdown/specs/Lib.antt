pub mod Passing
pub mod Scan
pub mod Laws
