-- The laws of `ciphers`, file by file.
pub mod Laws
