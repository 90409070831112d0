-- The laws of `sheets`, file by file.
pub mod Notes
pub mod CopiedNumbers
pub mod Starting
pub mod Saying
