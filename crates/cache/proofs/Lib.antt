-- The laws of `cache`, file by file.
pub mod PartsBack
pub mod Tagged
pub mod Evicting
pub mod Filling
pub mod Following
pub mod Dropping
pub mod Everything
pub mod Same
