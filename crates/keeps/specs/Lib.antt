-- What `keeps` means, file by file.
pub mod Good
pub mod Sound
pub mod Within
