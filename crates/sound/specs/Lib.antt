-- What `sound` means, file by file.
pub mod BoardLaws
pub mod Acceptable
