pub mod Arity
pub mod Blocks
pub mod Frames
pub mod Stores
