-- `machine::phase::ready` meets its promise.
use Rattle.machine.proofs.Serving.{slot-number}
use Rattle.machine.proofs.Granted.{readies_hit, readies_miss}
use Rattle.directory.specs.Direct.{direct}
use mathlib.Core.Path.{sym, ◌∙◌}
use Rattle.machine.proofs.phase.ready.Goals as goal

pub serves-requires : goal.serves-requires
serves-requires g c = slot-number _ _ c.requires.fit c.requires.slot_in_bounds.0

pub returns-then-serves-clause-does : goal.returns-then-serves-clause-does
unfolding direct
returns-then-serves-clause-does g c =
    readies_hit direct _ _ _ _ _ _ c.none.ensures (sym c.if-serves.true ∙ c.serves.ensures)
    c.touch.ensures

pub returns-clause-does : goal.returns-clause-does
unfolding direct
returns-clause-does g c =
    readies_miss direct _ _ _ _ _ _ _ (sym c.if-serves.false ∙ c.serves.ensures)
    c.replace.ensures.does
