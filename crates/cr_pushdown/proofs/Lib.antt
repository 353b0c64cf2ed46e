pub mod Answers
pub mod Orders
pub mod Pages
pub mod Wide
