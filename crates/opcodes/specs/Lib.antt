-- What `opcodes` means.
pub mod Numbers
