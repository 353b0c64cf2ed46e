pub mod Sessions
pub mod Performing
pub mod Lookup
pub mod Joining
pub mod Scans
pub mod Listening
pub mod Hearing
