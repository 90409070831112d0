-- The blocks before place i stand as they will be, and what is made of the rest is the answer's rest.
use Prim.Native.Nat.{◌-◌}
use Rattle.columns.specs.Words.{block_of}
use Rattle.aes_standard.specs.Chain.{unchained}
use Rattle.rounds.specs.Ways.{eq_inv_cipher}
use Rattle.chain.proofs.ChainLaws.{After}
use Rattle.chain.proofs.unchain.Given as goal

abbrev pub invariant-loop-i : goal.invariant-loop-i
invariant-loop-i l =
    After l.i (unchained (eq_inv_cipher l.v) l.n (block_of l.initial.x) l.initial.b) l.initial.b l.b
    (unchained (eq_inv_cipher l.v) (l.n - l.i) (block_of l.x))
