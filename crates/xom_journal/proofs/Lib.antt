pub mod PlaceLaws
pub mod RecordLaws
