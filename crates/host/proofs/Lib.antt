-- The laws of `host`, file by file.
pub mod Refusing
pub mod Accepting
pub mod Rows
