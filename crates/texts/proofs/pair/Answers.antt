-- The bytes of the two numbers, one after the other.
use mathlib.Core.Path.{◌∙◌}
use Rattle.lists.specs.Parts.{put_at}
use Rattle.texts.proofs.TextLaws.{pair_is}
use Rattle.texts.proofs.pair.Goals as goal

pub returns : goal.returns
unfolding put_at
returns c =
    pair_is c.args.hi c.args.lo _ _ (c.copy_from_slice.ensures.after ∙ c.to_be_bytes.ensures)
    (c.copy_from_slice-2.ensures.after ∙ c.to_be_bytes-2.ensures)
