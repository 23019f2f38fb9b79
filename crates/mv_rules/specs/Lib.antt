pub mod Shape
pub mod Forms
pub mod Names
pub mod RulesText
pub mod Drafts
pub mod ItemGrammar
pub mod Grammar
