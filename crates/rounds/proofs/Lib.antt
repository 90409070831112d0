-- The laws of rounds.
pub mod RoundLaws
pub mod WayLaws
