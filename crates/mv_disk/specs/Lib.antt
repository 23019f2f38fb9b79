pub mod Disk
pub mod First
pub mod Journal
pub mod Kept
pub mod Made
pub mod MemDisk
pub mod MemDiskLaws
pub mod Records
