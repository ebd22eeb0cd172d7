pub mod CommandLaws
pub mod Kept
pub mod Seen
pub mod MomentLaws
pub mod PlaceLaws
pub mod Going
pub mod Carrying
