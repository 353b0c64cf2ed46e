pub mod Naming
pub mod Showing
pub mod Updating
pub mod Hearing
pub mod ByPlan
pub mod Defining
