-- The laws of `words`.
pub mod Words
