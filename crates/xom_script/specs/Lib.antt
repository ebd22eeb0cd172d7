pub mod Fields
pub mod RunFiles
pub mod RunLines
pub mod RunOrder
pub mod RunRules
pub mod ScriptLines
pub mod Scripts
