pub mod Start
pub mod ReadAgain
pub mod Shipped
