pub mod Within
pub mod Grouped
pub mod Finishing
