-- What the instruction words of a board file are.
pub mod Words
