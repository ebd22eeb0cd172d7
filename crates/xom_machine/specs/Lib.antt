pub mod Whole
pub mod Shown
pub mod Kept
pub mod Runs
