-- The number goes into the last byte.
use Rattle.field.specs.Field.{◌⊕◌}
use Rattle.hiding.proofs.RegisterLaws.{count-is}
use Rattle.hiding.proofs.count.Goals as goal

pub returns : goal.returns
unfolding ◌⊕◌
returns c = count-is c.args.h.now _ _ c.args.j c.fits-h c.ranges.j.fits c.from_be_bytes.ensures c.to_be_bytes.ensures
