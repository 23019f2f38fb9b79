pub mod DecisionSteps
pub mod Denying
pub mod Keeping
pub mod LineLaws
pub mod ReadSteps
pub mod Splits
pub mod TextLaws
