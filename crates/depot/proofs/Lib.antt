-- The laws of `depot`, file by file.
pub mod CallLaws
