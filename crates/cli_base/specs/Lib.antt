pub mod Refusals
pub mod Commands
pub mod Inputs
pub mod Readings
