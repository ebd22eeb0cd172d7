pub mod Received
pub mod Runs
pub mod Laws
