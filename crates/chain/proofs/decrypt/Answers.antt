-- The chain under the keys of the equivalent inverse cipher is the chain under the key.
use mathlib.Core.Path.{◌∙◌}
use Rattle.chain.proofs.ChainLaws.{eq_decrypt-cbc_decrypt}
use Rattle.chain.proofs.decrypt.Goals as goal

pub returns : goal.returns
returns c =
    c.unchain.ensures
    ∙ eq_decrypt-cbc_decrypt c.args.key.now c.expand-w.result c.invert-v.result c.args.iv.now c.args.b.now
    c.expand-w.ensures c.invert-v.ensures
