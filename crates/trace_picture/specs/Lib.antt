pub mod Lanes
pub mod Marks
pub mod GuestTable
pub mod Pages
