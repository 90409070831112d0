-- The laws of `claims`, file by file.
pub mod Proofs
