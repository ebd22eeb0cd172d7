pub mod Console
pub mod EventsLine
