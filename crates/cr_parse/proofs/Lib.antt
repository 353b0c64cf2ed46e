pub mod Turns
pub mod Loops
pub mod Judged
pub mod Refusals
