pub mod Leading
pub mod Sources
pub mod Widths
