-- The laws of a block deciphered.
pub mod DecipherLaws
