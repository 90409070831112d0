-- The columns' sum is that of the blocks.
use mathlib.Core.Path.{ap₂, ◌∙◌}
use Rattle.aes_standard.specs.State.{plus}
use Rattle.cmac.proofs.sum.Goals as goal

pub returns : goal.returns
unfolding plus
returns c =
    c.into.ensures ∙ c.bitxor.ensures ∙ ap₂ plus c.from.ensures.block c.from-2.ensures.block
