-- The laws of `answers`.
pub mod Laws
