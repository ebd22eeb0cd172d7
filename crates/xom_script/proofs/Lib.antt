pub mod AscendLaws
pub mod FieldLaws
pub mod RuleLaws
pub mod RunLaws
pub mod RunLineLaws
pub mod ScriptLaws
