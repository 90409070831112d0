-- The laws of `model`, file by file.
pub mod LineLaws
pub mod Perform
pub mod Sums
pub mod CachedRules
pub mod Traps
pub mod Manual
