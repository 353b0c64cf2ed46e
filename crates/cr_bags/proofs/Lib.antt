pub mod BagLaws
pub mod SortLaws
