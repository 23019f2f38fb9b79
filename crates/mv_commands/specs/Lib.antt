-- In the order to read: the lines and statuses, what named files are, what holds of each ending.
pub mod Lines
pub mod Named
pub mod Causes
pub mod Loading
pub mod Keeping
