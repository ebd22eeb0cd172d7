pub mod Numbered
pub mod Files
pub mod Heard
pub mod Grammar
