pub mod Lists
pub mod Branches
pub mod Advances
pub mod Plain
