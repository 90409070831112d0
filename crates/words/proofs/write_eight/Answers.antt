-- The bytes that are copied are those of the word.
use Rattle.std.proofs.Common.{arith, ◌∙◌}
use Rattle.words.proofs.Words.{le_bytes-written}
use Rattle.words.proofs.write_eight.Goals as goal

pub returns : goal.returns
returns c =
    le_bytes-written c.args.at 8 _ c.args.v c.args.s.now _ (omega arith)
    (c.copy_from_slice.ensures.after ∙ c.to_le_bytes.ensures)
