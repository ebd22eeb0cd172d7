pub mod Forms
pub mod Lexing
pub mod Arguments
pub mod Lines
