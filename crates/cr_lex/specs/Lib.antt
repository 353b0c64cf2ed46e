pub mod Texts
pub mod Tokens
pub mod Reading
pub mod Marks
pub mod Spelling
pub mod Symbols
pub mod Outside
pub mod Laws
