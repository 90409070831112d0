-- What `model` means, file by file.
pub mod Tags
pub mod Cipher
pub mod CipherLaws
pub mod Lines
pub mod Log
pub mod Requests
pub mod Uncached
pub mod Placement
pub mod PlacementLaws
pub mod Cached
