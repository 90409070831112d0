-- The laws of a board file's numbers.
pub mod DigitLaws
