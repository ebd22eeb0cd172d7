pub mod ReceivedLaws
pub mod Steps
pub mod RunLaws
pub mod AloneLaws
