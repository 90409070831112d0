-- The laws of `sealing`, file by file.
pub mod LineLaws
pub mod StreamLaws
