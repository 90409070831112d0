-- What `agree` means, file by file.
pub mod Agree
