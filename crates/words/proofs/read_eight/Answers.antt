-- The eight bytes, each by its worth.
use Rattle.std.proofs.Common.{arith}
use Rattle.words.proofs.Words.{little_eight}
use Rattle.words.proofs.read_eight.Goals as goal

pub returns : goal.returns
returns c = omega (arith, little_eight c.args.at c.args.s.now c.requires, c.from_le_bytes.ensures)
