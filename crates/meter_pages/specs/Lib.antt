-- What the pages of the meter mean.
pub mod Runs
