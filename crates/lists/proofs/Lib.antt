-- The laws of `lists`, file by file.
pub mod PartLaws
pub mod ByteLaws
pub mod WordLaws
pub mod NthLaws
pub mod Cases
pub mod Xor
pub mod Copies
