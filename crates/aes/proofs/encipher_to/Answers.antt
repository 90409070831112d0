-- The block that is laid down is the cipher of the one that was loaded.
use Rattle.columns.proofs.StoreLaws.{put_at-all}
use Rattle.ways.proofs.CipherLaws.{encipher-is}
use Rattle.columns.specs.Words.{block_of}
use Rattle.std.proofs.Common.{rules, ◌≡◌, ◌∙◌, length}
use Rattle.aes.proofs.encipher_to.Goals as goal

pub returns : goal.returns
returns c =
    let size : length c.args.out.now ≡ 16 = search rules in
    let x = block_of c.through-x.result in
    c.store.ensures ∙ put_at-all 16 x c.args.out.now size
    ∙ encipher-is c.mixed.result.entries c.args.w.now c.args.block.now (block_of c.from.result) x
    c.mixed.result.rule c.from.ensures.block c.through-x.ensures
