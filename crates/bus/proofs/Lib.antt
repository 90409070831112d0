-- The laws of `bus`, file by file.
pub mod Transfers
