pub mod StepFields
pub mod StepTexts
