-- In the order to read: files as they are told, log files, what an audit answers, what is said in private clauses.
pub mod Told
pub mod Logs
pub mod Audits
pub mod Steps
