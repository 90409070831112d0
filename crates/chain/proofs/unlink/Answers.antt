-- The block that was deciphered, plus the block before, is laid down.
use Rattle.chain.proofs.ChainLaws.{unlink_is}
use Rattle.ways.proofs.CipherLaws.{through_back}
use Rattle.rounds.proofs.WayLaws.{block-changed}
use Rattle.columns.specs.Words.{block_of}
use Rattle.lists.specs.Parts.{put_at}
use Rattle.std.proofs.Common.{ℕ, List, ap, ◌∙◌}
use Rattle.chain.proofs.unlink.Goals as goal

pub returns : goal.returns
returns c =
    let l = c.args.b.now in
    let x = c.columns_at.result in
    let z = c.through-x.result in
    c.store.ensures
    ∙ ap (λ (s : List ℕ). put_at c.args.k 16 s l)
    (unlink_is c.args.v.now l (block_of x) c.args.k (block_of z) (block_of c.flip-2.result) (block_of c.args.before) _
    c.requires c.columns_at.ensures (block-changed z c.flip-2.result c.flip-2.ensures) c.bitxor-y.ensures
    (through_back c.args.t.now.entries c.args.u.now.entries c.args.v.now x c.flip.result (block_of z) c.args.t.now.rule
    c.args.u.now.rule c.flip.ensures c.through-x.ensures))
