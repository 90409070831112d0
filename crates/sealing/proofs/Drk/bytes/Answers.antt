-- The bytes of the two words.
use Rattle.sealing.specs.Lines.{drk_of}
use Rattle.sealing.proofs.Drk.bytes.Goals as goal

pub returns : goal.returns
unfolding drk_of
returns c = c.pair.ensures
