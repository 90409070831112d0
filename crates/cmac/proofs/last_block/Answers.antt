-- A message in front of zeros, whole or padded.
use mathlib.Core.Path.{ap, ◌∙◌}
use Rattle.aes_standard.specs.State.{plus}
use Rattle.cmac.specs.Subkeys.{doubled}
use Rattle.cmac.proofs.Steps.{last_whole, last-padded}
use Rattle.cmac.proofs.last_block.Goals as goal

pub returns-then-n-eq16 : goal.returns-then-n-eq16
returns-then-n-eq16 c =
    last_whole c.args.k1.now (doubled c.args.k1.now) c.args.m.now _ _ c.if-n-eq16.true
    c.copy_from_slice.ensures.after c.sum.ensures

pub returns : goal.returns
returns c =
    last-padded c.args.k1.now _ c.args.m.now _ _ c.requires c.if-n-eq16.false c.copy_from_slice.ensures.after
    (c.sum-2.ensures ∙ ap (plus _) c.double.ensures)
