pub mod Lending
pub mod Masks
pub mod Sessions
