pub mod EntryParts
pub mod Log
pub mod Records
