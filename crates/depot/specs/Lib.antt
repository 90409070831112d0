-- What `depot` means, file by file.
pub mod Answer
