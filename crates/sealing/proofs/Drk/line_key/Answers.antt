-- The MAC of a byte 1.
use Rattle.sealing.specs.Lines.{line_key}
use Rattle.sealing.proofs.Drk.line_key.Goals as goal

pub returns : goal.returns
unfolding line_key
returns c = c.mac_of.ensures
