pub mod Symbols
pub mod Folding
pub mod Counting
pub mod Keys
pub mod Fitting
pub mod Adding
pub mod Suiting
