-- CMAC with AES-128, as SP 800-38B and RFC 4493 define it, on lists of bytes of any length.
pub mod Subkeys
pub mod Cmac
