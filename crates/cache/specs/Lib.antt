-- What `cache` means, file by file.
pub mod Lent
pub mod Held
pub mod Does
