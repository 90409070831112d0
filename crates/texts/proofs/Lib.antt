-- The laws of numbers as bytes, and of texts laid down part by part.
pub mod TextLaws
