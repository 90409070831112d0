-- The sum of the shares of the diagonal's entries.
use Rattle.std.proofs.Common.{refl}
use Rattle.field.specs.Field.{◌⊕◌}
use Rattle.columns.specs.Words.{shared_word}
use Rattle.rounds.proofs.shared.Goals as goal

pub returns : goal.returns
unfolding ◌⊕◌ shared_word
returns c = rw (c.turn.ensures, c.turn-2.ensures, c.turn-3.ensures, c.diagonal.ensures 0) refl
