-- What `machine` means, file by file.
pub mod Found
pub mod Grants
pub mod Steps
pub mod Runs
pub mod Lent
