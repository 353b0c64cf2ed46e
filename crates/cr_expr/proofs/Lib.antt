pub mod Loops
pub mod Nodes
pub mod QuietLaw
pub mod LimitLaw
pub mod ReadsLaw
