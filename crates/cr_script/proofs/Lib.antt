pub mod Scripting
pub mod Turning
pub mod Executions
pub mod Staying
pub mod Heeding
