mod Sizes
pub mod Reading
pub mod Holding
pub mod ShippedLaw
pub mod Schedules
