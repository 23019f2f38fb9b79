pub mod Contents
pub mod Assembles
pub mod FirstFault
pub mod Sizes
pub mod Facts
pub mod Costs
pub mod Budget
