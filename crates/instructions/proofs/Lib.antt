-- The laws of `instructions`, file by file.
pub mod RuleLaws
pub mod Sane
pub mod Phases
pub mod Marked
pub mod Traps
pub mod DepotLaws
