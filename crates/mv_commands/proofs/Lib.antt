pub mod Wholes
pub mod Writable
pub mod Comings
pub mod Showings
pub mod Updates
pub mod Exactness
