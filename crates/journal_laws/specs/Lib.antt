pub mod RulesOfRecord
pub mod RulesKept
