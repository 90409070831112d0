-- The inverse cipher's round keys before key r are laid down.
use mathlib.Core.Path.{◌≡◌}
use lib.ListN.{length}
use Rattle.schedule.specs.Inverse.{InverseKeys}
use Rattle.schedule.proofs.invert.Given as goal

abbrev pub invariant-loop-r : goal.invariant-loop-r
invariant-loop-r l = (length l.v ≡ 44) × InverseKeys l.r l.w l.v
