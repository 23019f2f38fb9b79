-- To be read in this order.
pub mod Form
pub mod FormLaws
pub mod Forms
pub mod Numerals
pub mod Words
pub mod Mnemonics
pub mod Statements
