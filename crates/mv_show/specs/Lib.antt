pub mod Causes
pub mod Calls
pub mod Lines
pub mod Names
pub mod Orders
