pub mod Field
pub mod Substitution
pub mod State
pub mod Keys
pub mod Cipher
pub mod Laws
pub mod Columns
