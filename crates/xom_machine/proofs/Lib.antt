pub mod Events
pub mod Search
pub mod GoingOn
pub mod Pokes
pub mod Fitting
pub mod Bytes
