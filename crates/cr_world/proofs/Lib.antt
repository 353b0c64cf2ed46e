pub mod Alike
pub mod Keeping
pub mod Claims
pub mod Showing
pub mod Running
mod Examples
