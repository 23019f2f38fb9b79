pub mod Draws
pub mod Playing
pub mod Sums
pub mod Scheduled
pub mod Rehearsing
