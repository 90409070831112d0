-- The laws of all rounds, either way.
pub mod CipherLaws
