pub mod KeyLemmas
pub mod NoteLemmas
