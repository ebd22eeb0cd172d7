pub mod Cores
pub mod Settling
pub mod Flushing
