pub mod Integers
pub mod Lexemes
pub mod Registers
pub mod Tokens
