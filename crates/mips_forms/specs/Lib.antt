pub mod Forms
pub mod Builds
pub mod FormLaws
