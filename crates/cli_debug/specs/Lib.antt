pub mod Debug
