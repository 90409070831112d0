-- Each block that is laid down is the next one of the chain, and after the last nothing is left to be made.
use Prim.Native.Nat.{ℕ, ◌/◌}
use mathlib.Core.Path.{refl, ap, ◌∙◌}
use mathlib.Core.List.{List}
use lib.ListN.{length}
use native.Mathlib.Omega.{arith}
use Rattle.columns.specs.Words.{block_of}
use Rattle.aes_standard.specs.Chain.{chained, cbc_encrypt}
use Rattle.chain.proofs.ChainLaws.{after_more, after-all, chained-one, chained-none, chained-from}
use Rattle.chain.proofs.encrypt.Goals as goal

pub loop-i-preserved : goal.loop-i-preserved
loop-i-preserved c =
    after_more c.loop-i.i _ _ c.args.b.now c.loop-i.b (block_of c.link-x.result) _ _ _ (omega arith) refl refl
    c.store.ensures
    (chained-one c.args.w.now _ c.loop-i.i (block_of c.loop-i.x) c.loop-i.b (block_of c.link-x.result)
    (omega arith) c.link-x.ensures)
    c.loop-i.invariant

pub returns : goal.returns
unfolding cbc_encrypt
returns c =
    let n = length c.args.b.now / 16 in
    after-all c.loop-i.i _ c.args.b.now c.loop-i.b _
    (λ r. chained-none c.args.w.now n c.loop-i.i (block_of c.loop-i.x) r (omega arith)) c.loop-i.invariant
    ∙ ap (λ (z : List ℕ). chained c.args.w.now n z c.args.b.now) c.from-x.ensures.block
    ∙ chained-from c.args.w.now n c.args.iv.now c.args.b.now
