pub mod Runs
pub mod ShortForms
pub mod Replaced
pub mod Texts
pub mod Guests
pub mod Sizes
