-- CBC decryption as the code takes it.
pub mod Equivalent
