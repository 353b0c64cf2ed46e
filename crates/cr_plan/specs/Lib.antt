pub mod Offers
pub mod Told
pub mod Orders
pub mod Laws
