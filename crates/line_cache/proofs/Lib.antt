pub mod Search
pub mod Changes
pub mod Start
pub mod Placing
pub mod Dropping
pub mod Taking
pub mod Writing
