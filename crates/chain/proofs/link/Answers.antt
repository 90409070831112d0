-- The block that `through` made, from the block before and the one that was loaded.
use Rattle.chain.proofs.ChainLaws.{link_is}
use Rattle.ways.proofs.CipherLaws.{through_there}
use Rattle.columns.specs.Words.{block_of}
use Rattle.chain.proofs.link.Goals as goal

pub returns : goal.returns
returns c =
    link_is c.args.w.now c.args.b.now c.args.k (block_of c.args.before)
    (block_of c.columns_at.result) (block_of c.bitxor-x.result) (block_of c.through.result)
    c.requires c.columns_at.ensures c.bitxor-x.ensures
    (through_there c.args.t.now.entries c.args.w.now (block_of c.bitxor-x.result) (block_of c.through.result)
    c.args.t.now.rule c.through.ensures)
