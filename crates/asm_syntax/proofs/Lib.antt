pub mod CommaLaws
pub mod FormLaws
pub mod LexemeLaws
pub mod LineLaws
