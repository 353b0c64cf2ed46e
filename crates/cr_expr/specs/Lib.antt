pub mod Setting
pub mod Eval
pub mod Laws
