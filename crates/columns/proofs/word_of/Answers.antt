-- Four bytes, each by its worth.
use Rattle.field.specs.Mixing.{word}
use Rattle.aes_standard.specs.State.{byte_of}
use Rattle.std.proofs.Common.{arith}
use Rattle.columns.proofs.word_of.Goals as goal

pub returns : goal.returns
unfolding byte_of word
returns c = omega arith
