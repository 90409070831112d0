-- K1 is the cipher of a block of zeros, doubled.
use mathlib.Core.Path.{ap, ◌∙◌}
use Rattle.lists.specs.Bytes.{zeros}
use Rattle.cmac.specs.Subkeys.{doubled, subkey1}
use Rattle.cmac.proofs.subkey1.Goals as goal

pub returns : goal.returns
unfolding subkey1 zeros
returns c = c.double.ensures ∙ ap doubled c.encipher.ensures
