-- What is left to be absorbed gives the answer.
use Prim.Native.Nat.{◌-◌, ◌*◌}
use mathlib.Core.Path.{◌≡◌}
use lib.ListN.{drop}
use Rattle.columns.specs.Words.{block_of}
use Rattle.aes_standard.specs.Chain.{absorbed}
use Rattle.chain.proofs.absorb.Given as goal

abbrev pub invariant-loop-i : goal.invariant-loop-i
invariant-loop-i l =
    (absorbed l.w l.n (block_of l.initial.x) l.b ≡ absorbed l.w (l.n - l.i) (block_of l.x) (drop (l.i * 16) l.b))
