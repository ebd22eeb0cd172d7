pub mod Fields
pub mod PlainFiles
pub mod SealedFiles
