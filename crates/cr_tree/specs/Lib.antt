pub mod Marks
pub mod Grammar
pub mod Reading
pub mod Language
pub mod Judging
pub mod Laws
pub mod Parameters
