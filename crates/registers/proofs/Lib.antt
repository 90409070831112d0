-- The laws of `registers`, file by file.
pub mod Decoding
pub mod NextPc
pub mod Suspending
pub mod Executing
pub mod ByOpcode
