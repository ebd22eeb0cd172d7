pub mod Told
pub mod Files
