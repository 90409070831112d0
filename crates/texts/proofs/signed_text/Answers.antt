-- The text is laid down part by part.
use mathlib.Core.Path.{◌∙◌}
use Rattle.lists.specs.Parts.{put_at}
use Rattle.texts.proofs.TextLaws.{text_is}
use Rattle.texts.proofs.signed_text.Goals as goal

pub returns : goal.returns
unfolding put_at
returns c =
    text_is c.args.prefix c.args.address c.args.bytes.now c.args.out.now _ _ c.requires
    (c.copy_from_slice.ensures.after ∙ c.to_be_bytes.ensures) c.copy_from_slice-2.ensures.after
