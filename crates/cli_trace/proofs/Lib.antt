pub mod Told
pub mod Runnable
pub mod Headline
pub mod Statuses
