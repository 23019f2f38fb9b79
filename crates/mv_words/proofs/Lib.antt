-- `OneReading` is promised to the crates above; all else is for the proofs here.
pub mod Walks
pub mod Lemmas
pub mod Rows
pub mod Holding
pub mod Taken
pub mod Parsed
pub mod Asking
pub mod OneReading
pub mod Defaults
