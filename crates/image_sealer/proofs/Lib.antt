pub mod Opening
pub mod Members
pub mod Membership
