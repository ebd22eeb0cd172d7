pub mod Rows
pub mod Words
pub mod Outcome
pub mod Endings
pub mod Promises
pub mod Laws
