-- The number of the block, shifted, has the bytes of the block doubled.
use Rattle.field.specs.Field.{◌⊕◌}
use Rattle.cmac.proofs.Numbers.{doubled-is}
use Rattle.cmac.proofs.double.Goals as goal

pub returns : goal.returns
unfolding ◌⊕◌
returns c =
    doubled-is c.args.b.now c.to_be_bytes.result c.from_be_bytes-x.result c.fits-b c.from_be_bytes-x.type_inv
    c.from_be_bytes-x.ensures c.to_be_bytes.ensures
