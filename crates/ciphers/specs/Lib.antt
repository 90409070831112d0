-- What `ciphers` means, file by file.
pub mod Cipher
