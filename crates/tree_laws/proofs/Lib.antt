pub mod TreeRules
