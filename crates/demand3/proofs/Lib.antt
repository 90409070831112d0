-- The laws of `demand3`, file by file.
pub mod Calls
pub mod Demand3
pub mod Document
pub mod Starts
