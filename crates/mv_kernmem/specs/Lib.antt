pub mod Changes
pub mod Kernels
pub mod Polls
pub mod Replies
pub mod Sockets
pub mod States
