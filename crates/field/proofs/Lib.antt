-- The laws of `field`, file by file.
pub mod Every
pub mod Tables
pub mod Xor
pub mod Product
pub mod Additive
pub mod Inverses
pub mod SBoxLaws
pub mod MixingLaws
