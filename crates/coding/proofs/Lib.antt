-- The laws of instruction words.
pub mod WordLaws
