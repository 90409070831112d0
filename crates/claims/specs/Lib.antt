-- What `claims` means, file by file.
pub mod Claims
