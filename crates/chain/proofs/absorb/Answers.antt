-- Each block takes the chain one step on, and after the last nothing is left to absorb.
use Prim.Native.Nat.{ℕ, ◌*◌, ◌/◌}
use mathlib.Core.Path.{sym, ap, ◌∙◌}
use mathlib.Core.List.{List}
use lib.ListN.{length, drop}
use native.Mathlib.Omega.{arith}
use Rattle.columns.specs.Words.{block_of}
use Rattle.aes_standard.specs.Chain.{absorbed, last_of_chain}
use Rattle.chain.proofs.ChainLaws.{absorbed-one, absorbed-none, absorbed-from, last_of_chain-none}
use Rattle.chain.proofs.absorb.Goals as goal

pub returns-then-n-eq0 : goal.returns-then-n-eq0
returns-then-n-eq0 c = last_of_chain-none c.args.w.now c.args.before.now c.args.b.now (omega arith)

pub loop-i-preserved : goal.loop-i-preserved
loop-i-preserved c =
    c.loop-i.invariant
    ∙ absorbed-one c.args.w.now (length c.args.b.now / 16) c.loop-i.i (block_of c.loop-i.x) c.args.b.now
    (block_of c.link-x.result) (omega arith) c.link-x.ensures

pub returns : goal.returns
unfolding last_of_chain
returns c =
    let n = length c.args.b.now / 16 in
    c.into.ensures
    ∙ sym (absorbed-none c.args.w.now n c.loop-i.i (block_of c.loop-i.x) (drop (c.loop-i.i * 16) c.args.b.now)
    (omega arith))
    ∙ sym c.loop-i.invariant
    ∙ ap (λ (z : List ℕ). absorbed c.args.w.now n z c.args.b.now) c.from-x.ensures.block
    ∙ absorbed-from c.args.w.now n c.args.before.now c.args.b.now (omega arith)
