pub mod Judge
pub mod Hearings
pub mod Laws
