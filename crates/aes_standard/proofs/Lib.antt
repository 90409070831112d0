-- The laws of AES-128 and its chains, file by file.
pub mod WordBytes
pub mod StateLaws
pub mod RoundTrip
pub mod ChainTrip
