-- The laws of the outer face: what a row filled record by record comes to.
pub mod FilledRow
