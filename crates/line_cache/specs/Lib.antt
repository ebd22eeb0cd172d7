pub mod Ways
pub mod Lending
pub mod Lines
