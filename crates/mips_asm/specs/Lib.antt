pub mod Layout
pub mod Passes
pub mod Places
pub mod Encoding
pub mod Images
pub mod Sources
pub mod LabelMaps
pub mod Laws
