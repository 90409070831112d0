-- What `host` means, file by file.
pub mod Outcome
pub mod Row
