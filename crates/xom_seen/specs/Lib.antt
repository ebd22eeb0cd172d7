pub mod Emission
pub mod SeenNext
pub mod NoWayOut
pub mod SealOwners
