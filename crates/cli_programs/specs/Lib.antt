pub mod Programs
pub mod Assembly
