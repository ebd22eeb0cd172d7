pub mod Sealing
pub mod Laws
pub mod MemberLaws
pub mod Owned
pub mod Membership
