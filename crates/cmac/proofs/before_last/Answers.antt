-- The bytes before the last block, by arithmetic.
use native.Mathlib.Omega.{arith}
use Rattle.cmac.specs.Cmac.{before_last}
use Rattle.cmac.proofs.before_last.Goals as goal

pub returns : goal.returns
unfolding before_last
returns c = omega (arith, c.saturating_sub.ensures)
