-- CMAC under the words of the DRK's bytes.
use mathlib.Core.Path.{ap, ◌∙◌}
use mathlib.Core.List.{List}
use Prim.Native.Nat.{ℕ}
use Rattle.aes_standard.specs.Schedule.{key_expansion}
use Rattle.cmac.specs.Cmac.{cmac}
use Rattle.sealing.specs.Lines.{mac_of}
use Rattle.sealing.proofs.Drk.mac_of.Goals as goal

pub returns : goal.returns
unfolding mac_of
returns c =
    c.sign.ensures ∙ ap (λ (w : List ℕ). cmac w c.args.m.now) (c.expand.ensures ∙ ap key_expansion c.bytes.ensures)
