pub mod Start
pub mod Leaving
pub mod Raised
pub mod Filling
pub mod Flushing
