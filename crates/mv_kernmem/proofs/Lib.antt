pub mod ScriptLaws
pub mod SuitLaws
