-- The chain back under the line key, from the line's vector.
use mathlib.Core.Path.{◌∙◌}
use Rattle.aes_standard.specs.Chain.{cbc_decrypt}
use Rattle.sealing.specs.Lines.{drk_in, deciphered}
use Rattle.sealing.proofs.LineLaws.{under-line-key}
use Rattle.sealing.proofs.Drk.unseal.Goals as goal

pub returns : goal.returns
unfolding deciphered
returns c =
    c.decrypt.ensures
    ∙ under-line-key cbc_decrypt (drk_in c.args.self) c.args.address c.line_key-key.result _ _
    c.args.line.now c.line_key-key.ensures c.expand.ensures c.start_vector-iv.ensures
