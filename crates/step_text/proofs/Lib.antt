pub mod FieldLaws
pub mod StepWords
pub mod Texts
