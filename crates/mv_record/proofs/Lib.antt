pub mod Rows
pub mod RowsCalls
pub mod RowsOrders
pub mod RowsBirths
pub mod RowsMarks
pub mod RowsBodies
pub mod Loop
pub mod Files
