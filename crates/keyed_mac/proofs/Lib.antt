pub mod Blocks
pub mod Bits
pub mod Lengths
