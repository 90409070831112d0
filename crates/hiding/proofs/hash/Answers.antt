-- Each register lays its eight bytes down, and behind the last the text is whole.
use mathlib.Core.Path.{ap, ◌∙◌}
use native.Mathlib.Omega.{arith}
use borrow.Author.Rules.{rules}
use Rattle.lists.specs.Parts.{put_at}
use Rattle.sealing.specs.Lines.{mac_of}
use Rattle.hiding.proofs.RegisterLaws.{text_more, text_all}
use Rattle.hiding.proofs.hash.Goals as goal

pub loop-i-preserved : goal.loop-i-preserved
unfolding put_at
loop-i-preserved c =
    text_more c.loop-i.i _ c.args.r c.loop-i.text c.copy_from_slice.new.self c.loop-i.auto.i (omega arith) (search rules)
    (omega arith) (c.copy_from_slice.ensures.after ∙ c.to_be_bytes.ensures) c.loop-i.invariant

pub returns : goal.returns
returns c =
    c.mac_of.ensures
    ∙ ap (mac_of _) (text_all c.loop-i.i c.args.r c.loop-i.text (omega arith) (search rules) c.loop-i.invariant)
