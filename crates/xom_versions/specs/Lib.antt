pub mod Store
pub mod Versions
pub mod Chip
pub mod ChipLaw
