pub mod LineBytes
pub mod Images
pub mod Reading
pub mod PlainReading
pub mod SealedReading
