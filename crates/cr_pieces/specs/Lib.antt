pub mod Pieces
pub mod Spelled
pub mod Known
pub mod Sample
pub mod Laws
