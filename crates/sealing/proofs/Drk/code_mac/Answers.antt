-- The MAC of a line's text.
use Rattle.sealing.specs.Lines.{code_mac}
use Rattle.sealing.proofs.Drk.code_mac.Goals as goal

pub returns : goal.returns
unfolding code_mac
returns c = c.line_mac.ensures
