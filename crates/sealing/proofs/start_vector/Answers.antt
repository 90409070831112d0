-- The cipher of the address behind zeros.
use mathlib.Core.Path.{ap, ◌∙◌}
use Rattle.aes_standard.specs.Cipher.{cipher}
use Rattle.sealing.specs.Lines.{drk_of}
use Rattle.sealing.proofs.start_vector.Goals as goal

pub returns : goal.returns
unfolding drk_of
returns c = c.encipher.ensures ∙ ap (cipher c.args.w.now) c.pair.ensures
