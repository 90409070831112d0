-- The laws of `sound`, file by file.
pub mod Programs
pub mod Lent
pub mod Refused
pub mod Kept
pub mod Bounds
pub mod Document
