pub mod Least
pub mod Fitting
pub mod Tested
pub mod Moving
pub mod Unmapping
