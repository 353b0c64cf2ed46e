mod LikeLemmas
mod Folds
pub mod Checked
