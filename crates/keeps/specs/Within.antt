-- How much a log may count: at most f lines filled and at most w written, no more MACs checked than lines filled, no
-- more made than written.
use Rattle.std.specs.Prelude.{ℕ, ◌≤◌, List}
use Rattle.model.specs.Log.{Note, counts_of}

-- the log counts within these bounds
pub record Within (f w : ℕ) (log : List Note) : Type 0 where
  pub filled : (counts_of log).filled ≤ f
  pub written : (counts_of log).written ≤ w
  pub checked : (counts_of log).checked ≤ (counts_of log).filled
  pub made : (counts_of log).made ≤ (counts_of log).written
