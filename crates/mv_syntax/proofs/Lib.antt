pub mod Powers
pub mod FormLaws
pub mod InstructionLaws
pub mod NumberParts
pub mod NumberLaws
pub mod NumberBounds
pub mod TreeLaws
pub mod TreeCode
pub mod NestingLaws
pub mod ExpressionLaws
pub mod BodyLaws
pub mod CodeLaws
pub mod SectionLaws
pub mod ModuleLaws
pub mod SectionInduction
pub mod KeptLaws
mod CountLaws
mod LocalRuns
-- Of the first fault of a file, and worked examples.
mod FaultForms
mod FaultParts
mod FaultLaws
mod FaultRows
