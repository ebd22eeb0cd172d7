pub mod Images
pub mod Without
