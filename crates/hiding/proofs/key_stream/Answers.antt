-- Each block lays its sixteen bytes down, and behind the last the stream is whole.
use mathlib.Core.Path.{ap, ◌∙◌}
use native.Mathlib.Omega.{arith}
use Rattle.lists.specs.Parts.{put_at}
use Rattle.aes_standard.specs.Cipher.{cipher}
use Rattle.sealing.specs.Lines.{drk_in}
use Rattle.hiding.proofs.RegisterLaws.{stream_more, stream-all}
use Rattle.hiding.proofs.key_stream.Goals as goal

pub loop-j-preserved : goal.loop-j-preserved
unfolding put_at
loop-j-preserved c =
    stream_more c.loop-j.j _ c.expand-w.result c.args.h.now c.loop-j.s c.copy_from_slice.new.self (omega arith)
    (omega arith)
    (c.copy_from_slice.ensures.after ∙ c.encipher.ensures ∙ ap (cipher c.expand-w.result) c.count.ensures)
    c.loop-j.invariant

pub returns : goal.returns
returns c =
    stream-all (drk_in c.args.drk) c.loop-j.j c.line_key.result c.expand-w.result c.args.h.now c.loop-j.s (omega arith)
    c.line_key.ensures c.expand-w.ensures c.loop-j.invariant
