-- A state in four words.
pub mod Words
