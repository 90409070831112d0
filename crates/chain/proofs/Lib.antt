-- The laws of chains of blocks in a buffer.
pub mod ChainLaws
