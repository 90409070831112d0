-- The laws of `directory`, file by file.
pub mod TagLaws
pub mod NumberLaws
pub mod DirectLaws
pub mod Scan
