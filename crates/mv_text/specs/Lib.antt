-- To be read in this order.
pub mod Comments
pub mod States
pub mod Assembly
pub mod Grammar
