-- What the board's own promises mean.
pub mod Listed
