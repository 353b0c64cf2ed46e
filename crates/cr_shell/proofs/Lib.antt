pub mod BytesLemmas
pub mod PrintLemmas
pub mod LineLemmas
pub mod TableLemmas
pub mod TableReady
pub mod RanLaws
pub mod ServeLemmas
