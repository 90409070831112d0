-- The laws of `machine`, file by file.
pub mod InsideLaws
pub mod Serving
pub mod Granted
pub mod Stepping
pub mod Running
