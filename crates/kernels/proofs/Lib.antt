pub mod Told
mod Puts
