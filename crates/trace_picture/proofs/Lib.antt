pub mod ColumnLaws
pub mod GuestLaws
pub mod MarkLaws
pub mod Steps
