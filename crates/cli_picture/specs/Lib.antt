pub mod Picture
pub mod Calls
