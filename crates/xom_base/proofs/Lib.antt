pub mod StepLaws
pub mod PaddedLaws
pub mod Images
