pub mod ReadLaws
pub mod RowLaws
