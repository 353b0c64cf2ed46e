pub mod Questions
pub mod Parts
pub mod Asked
