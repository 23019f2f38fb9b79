-- To be read in this order.
pub mod Lines
pub mod Words
pub mod Found
pub mod Ranges
pub mod Numbers
pub mod Names
pub mod WordGrammar
