pub mod Answers
pub mod Counts
pub mod Memory
pub mod Names
