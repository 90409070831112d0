-- Each block that is laid down is the next one of the chain, and after the last nothing is left to be made.
use Prim.Native.Nat.{ℕ, ◌*◌, ◌/◌}
use mathlib.Core.Path.{refl, ap, ◌∙◌}
use mathlib.Core.List.{List}
use lib.ListN.{length}
use native.Mathlib.Omega.{arith}
use Rattle.columns.specs.Words.{block_of}
use Rattle.lists.specs.Parts.{part_at}
use Rattle.aes_standard.specs.State.{plus}
use Rattle.aes_standard.specs.Chain.{unchained}
use Rattle.rounds.specs.Ways.{eq_inv_cipher}
use Rattle.chain.specs.Equivalent.{eq_decrypt}
use Rattle.chain.proofs.ChainLaws.{after_more, after-all, unchained-one, unchained-none, unchained-from}
use Rattle.columns.proofs.StoreLaws.{state-part_at}
use Rattle.chain.proofs.unchain.Goals as goal

pub loop-i-preserved : goal.loop-i-preserved
unfolding plus
loop-i-preserved c =
    let i = c.loop-i.i in
    let l = c.loop-i.b in
    let inv = eq_inv_cipher c.args.v.now in
    let block = plus (inv (part_at (i * 16) 16 l)) (block_of c.loop-i.x) in
    after_more i _ _ c.args.b.now l block _ _ _ (omega arith) refl refl c.unlink.ensures
    (unchained-one inv _ i (block_of c.loop-i.x) l (block_of c.columns_at-c.result) block (omega arith)
    (c.columns_at-c.ensures ∙ state-part_at l (i * 16) (omega (arith, c.loop-i.invariant.size))) refl)
    c.loop-i.invariant

pub returns : goal.returns
unfolding eq_decrypt
returns c =
    let n = length c.args.b.now / 16 in
    let inv = eq_inv_cipher c.args.v.now in
    after-all c.loop-i.i _ c.args.b.now c.loop-i.b _
    (λ r. unchained-none inv n c.loop-i.i (block_of c.loop-i.x) r (omega arith)) c.loop-i.invariant
    ∙ ap (λ (z : List ℕ). unchained inv n z c.args.b.now) c.from-x.ensures.block
    ∙ unchained-from inv n c.args.iv.now c.args.b.now
