pub mod Keeps
pub mod Served
pub mod Stands
