-- The blocks before place i stand as they will be, and what is made of the rest is the answer's rest.
use Prim.Native.Nat.{◌-◌}
use Rattle.columns.specs.Words.{block_of}
use Rattle.aes_standard.specs.Chain.{chained}
use Rattle.chain.proofs.ChainLaws.{After}
use Rattle.chain.proofs.encrypt.Given as goal

abbrev pub invariant-loop-i : goal.invariant-loop-i
invariant-loop-i l =
    After l.i (chained l.w l.n (block_of l.initial.x) l.initial.b) l.initial.b l.b
    (chained l.w (l.n - l.i) (block_of l.x))
