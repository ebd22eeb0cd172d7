pub mod Steps
pub mod Each
pub mod Unheld
pub mod Rules
pub mod Whole
pub mod Rows
pub mod Files
pub mod Unread
