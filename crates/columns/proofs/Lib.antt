-- The laws of words, and of buffers that they are laid down in.
pub mod WordLaws
pub mod StoreLaws
