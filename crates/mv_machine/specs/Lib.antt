pub mod States
pub mod Executions
pub mod Memories
pub mod Lending
pub mod Calls
pub mod Copies
pub mod Turns
pub mod Stops
