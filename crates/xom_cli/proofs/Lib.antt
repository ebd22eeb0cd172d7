pub mod Unread
pub mod Targets
pub mod Delivered
pub mod Kept
pub mod OneOutcome
