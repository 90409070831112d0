-- K2 is K1 doubled.
use mathlib.Core.Path.{ap, ◌∙◌}
use Rattle.cmac.specs.Subkeys.{doubled, subkey2}
use Rattle.cmac.proofs.subkey2.Goals as goal

pub returns : goal.returns
unfolding subkey2
returns c = c.double.ensures ∙ ap doubled c.subkey1.ensures
