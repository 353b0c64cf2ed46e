pub mod Deciding
pub mod KeptLemmas
pub mod StampLemmas
pub mod TableLemmas
