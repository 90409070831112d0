-- The four bytes, each by its worth.
use Rattle.std.proofs.Common.{arith}
use Rattle.words.proofs.Words.{little_four}
use Rattle.words.proofs.read_four.Goals as goal

pub returns : goal.returns
returns c =
    (omega (arith, little_four c.args.at c.args.s.now c.requires, c.from_le_bytes.ensures), c.from_le_bytes.type_inv)
