-- The MAC, from the subkey, the chain before the last block and the last block.
use Rattle.cmac.proofs.Steps.{signed}
use Rattle.cmac.proofs.sign.Goals as goal

pub returns : goal.returns
returns c =
    signed c.args.w.now c.args.m.now c.subkey1-k1.result c.absorb-before.result c.last_block-last.result
    c.sum.result c.encipher.result c.before_last-n.result c.before_last-n.ensures.is
    c.subkey1-k1.ensures c.absorb-before.ensures c.last_block-last.ensures c.sum.ensures
    c.encipher.ensures
