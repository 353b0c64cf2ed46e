pub mod Definition
pub mod Written
pub mod Reading
pub mod Laws
