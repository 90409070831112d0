-- The keys of the inverse cipher.
pub mod Inverse
