pub mod Words
pub mod Entries
pub mod Tables
pub mod Rounds
pub mod Constants
pub mod Growth
pub mod Sizes
pub mod Bytes
