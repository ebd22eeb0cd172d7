pub mod Refusals
pub mod Signals
pub mod Unmapping
