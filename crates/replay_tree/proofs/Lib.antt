pub mod Levels
pub mod PathsKept
pub mod Built
