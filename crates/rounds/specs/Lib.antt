-- The two ways through the rounds, and the parts of a round.
pub mod Ways
pub mod Parts
