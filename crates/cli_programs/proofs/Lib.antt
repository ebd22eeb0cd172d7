pub mod Assembled
pub mod Stopped
