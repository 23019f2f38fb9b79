-- In the order to read: how words are made up, what they ask for. The others are for private clauses.
pub mod Words
pub mod Commands
pub mod Hyphens
pub mod App
pub mod Given
