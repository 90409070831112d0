-- The MAC of a line's text.
use Rattle.sealing.specs.Lines.{data_mac}
use Rattle.sealing.proofs.Drk.data_mac.Goals as goal

pub returns : goal.returns
unfolding data_mac
returns c = c.line_mac.ensures
