pub mod Definition
pub mod Taking
pub mod Showing
pub mod ChangeRow
pub mod Snapshots
