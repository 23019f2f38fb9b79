-- In the order to read: the guests' texts and files, what the kernel plays and has answered, the operator's lines, the schedule; what
-- a load is; the figures of a log.
pub mod Guests
pub mod Files
pub mod Connections
pub mod Played
pub mod Operator
pub mod Schedule
pub mod Loads
pub mod Figures
