pub mod Limits
pub mod Ordered
pub mod Aggregated
pub mod BagLaw
pub mod Faulting
