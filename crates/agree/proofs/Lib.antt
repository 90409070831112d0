-- The laws of `agree`, file by file.
pub mod Update
pub mod Evict
pub mod Fill
pub mod Access
pub mod Bus
pub mod Everything
pub mod Requests
pub mod Traps
