-- The rounds before round r are done.
use Prim.Native.Nat.{◌-◌}
use Rattle.columns.specs.Words.{block_of}
use Rattle.rounds.specs.Ways.{Rounds}
use Rattle.ways.proofs.through.Given as goal

abbrev pub invariant-loop-r : goal.invariant-loop-r
invariant-loop-r l = Rounds l.t l.w (l.r - 1) (block_of l.initial.x) (block_of l.x)
