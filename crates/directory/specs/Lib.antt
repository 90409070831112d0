-- What `directory` means, file by file.
pub mod Numbers
pub mod Direct
pub mod TagIn
