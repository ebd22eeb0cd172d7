pub mod Commands
pub mod Moments
pub mod DebugTexts
pub mod Sessions
