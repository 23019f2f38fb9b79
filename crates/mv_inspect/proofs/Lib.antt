pub mod Wholes
pub mod Stops
pub mod Threes
pub mod Audited
