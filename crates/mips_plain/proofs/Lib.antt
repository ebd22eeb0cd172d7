pub mod Sizes
pub mod Filled
pub mod SameSteps
pub mod Runs
pub mod Stores
