pub mod Memory
pub mod Options
pub mod Padded
pub mod Results
pub mod Steps
pub mod Entries
pub mod Frames
pub mod Sizes
