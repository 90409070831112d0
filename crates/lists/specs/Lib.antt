-- What `lists` means, file by file.
pub mod If
pub mod Parts
pub mod Bytes
pub mod Words
