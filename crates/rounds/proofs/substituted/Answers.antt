-- The word of the diagonal's entries.
use Rattle.std.proofs.Common.{refl}
use Rattle.field.specs.Field.{◌⊕◌}
use Rattle.columns.specs.Words.{picked_word}
use Rattle.rounds.proofs.substituted.Goals as goal

pub returns : goal.returns
unfolding ◌⊕◌ picked_word
returns c = rw (c.word_of.ensures.is, c.diagonal.ensures 0) refl
