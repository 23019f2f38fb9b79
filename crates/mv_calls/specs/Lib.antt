pub mod Fits
pub mod Items
pub mod Or
pub mod Places
pub mod Suits
