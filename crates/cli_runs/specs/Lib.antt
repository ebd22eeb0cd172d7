pub mod Places
pub mod Schedules
pub mod RunFiles
pub mod OwnerImages
pub mod GuestFiles
pub mod KernelFiles
pub mod Parts
