-- The laws of `keeps`, file by file.
pub mod Evict
pub mod Access
pub mod Requests
pub mod Counts
pub mod Bytes
