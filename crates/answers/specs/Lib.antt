-- What `answers` means.
pub mod Numbers
