-- The bytes that are copied are those of the word.
use Rattle.columns.proofs.StoreLaws.{word_laid}
use Rattle.std.proofs.Common.{◌∙◌, arith}
use Rattle.columns.proofs.put_word.Goals as goal

pub returns : goal.returns
returns c =
    word_laid c.args.b.now _ c.args.k _ c.args.x c.requires (omega arith)
    (c.copy_from_slice.ensures.after ∙ c.to_be_bytes.ensures)
