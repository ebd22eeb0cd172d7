pub mod Arithmetic
pub mod Effects
