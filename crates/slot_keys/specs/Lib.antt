pub mod GuestKeys
