-- What `registers` means, file by file.
pub mod Map
pub mod Wanted
pub mod Effects
