-- AES-128 as FIPS 197 defines it, and cipher block chaining, on lists of bytes and words.
pub mod State
pub mod Schedule
pub mod Cipher
pub mod Chain
