pub mod Bytes
pub mod Laws
pub mod Lending
pub mod Pairs
