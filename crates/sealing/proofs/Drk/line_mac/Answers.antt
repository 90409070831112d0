-- The MAC of the text that was laid down.
use mathlib.Core.Path.{ap, ◌∙◌}
use Rattle.sealing.specs.Lines.{mac_of, signed_text}
use Rattle.sealing.proofs.Drk.line_mac.Goals as goal

pub returns : goal.returns
unfolding signed_text
returns g c = c.mac_of.ensures ∙ ap (mac_of _) c.signed_text.ensures
