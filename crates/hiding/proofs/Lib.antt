-- The laws of registers hashed and hidden one after the other.
pub mod RegisterLaws
