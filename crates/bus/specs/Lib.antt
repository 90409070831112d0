-- What `bus` means, file by file.
pub mod Handles
