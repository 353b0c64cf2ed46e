pub mod Puts
pub mod Tests
pub mod Lengths
pub mod Keys
pub mod Sets
pub mod Readings
pub mod Written
pub mod Widths
