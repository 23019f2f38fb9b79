pub mod AnsweringLaws
pub mod AuditLaws
pub mod FoldLaws
pub mod JudgementLaws
