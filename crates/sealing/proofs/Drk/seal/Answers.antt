-- The chain under the line key, from the line's vector.
use mathlib.Core.Path.{ap, ◌∙◌}
use mathlib.Core.List.{List}
use Prim.Native.Nat.{ℕ}
use Rattle.aes_standard.specs.Chain.{cbc_encrypt}
use Rattle.sealing.specs.Lines.{drk_in, enciphered}
use Rattle.sealing.proofs.LineLaws.{under-line-key}
use Rattle.sealing.proofs.Drk.seal.Goals as goal

pub returns : goal.returns
unfolding enciphered
returns c =
    c.encrypt.ensures
    ∙ ap (λ (w : List ℕ). cbc_encrypt w c.start_vector-iv.result c.args.line.now) c.expand-w.ensures
    ∙ under-line-key cbc_encrypt (drk_in c.args.self) c.args.address c.line_key.result
    c.expand-w.result _ c.args.line.now c.line_key.ensures c.expand-w.ensures c.start_vector-iv.ensures
