-- `machine::phase::word` meets its promise.
use Rattle.machine.proofs.Granted.{word_failed, word_done, slot-room, word-slot, line_small}
use Rattle.cache.proofs.Dropping.{some_slot}
use native.Mathlib.Omega.{arith}
use Rattle.machine.proofs.phase.word.Goals as goal
use Rattle.machine.proofs.phase.word.Goals.{then-r, else-r}

pub choose-slot-requires : goal.choose-slot-requires
choose-slot-requires c = some_slot _ c.requires.fit

pub ready-r-requires-clause-slot_in_bounds : goal.ready-r-requires-clause-slot_in_bounds
ready-r-requires-clause-slot_in_bounds c =
    omega (arith, word-slot _ _ _ _ c.requires.fit c.choose-slot.ensures c.requires.inside, c.requires.inside.line)

pub touch-requires : goal.touch-requires
touch-requires c =
    let slot = word-slot _ _ _ _ c.requires.fit c.choose-slot.ensures c.requires.inside in
    let same = c.ready-r.ensures.same in (
      omega (arith, slot, same),
      omega (arith, same, c.requires.fit.cache),
      c.requires.inside.place,
      line_small _ _ c.requires.fit c.requires.inside.line,
    )

pub returns-clause-finds : goal.returns-clause-finds
returns-clause-finds c =
    let slot = word-slot _ _ _ _ c.requires.fit c.choose-slot.ensures c.requires.inside in
    let room = slot-room _ _ c.requires.fit slot in
    elim c.if-r.branch [
      | then-r w ↦ rw (w.buffers-is, w.number-is) (word_done _ _ _ _ _ _ _ c.choose-slot.ensures
          c.ready-r.ensures.does _ _ _ _ _ c.requires.inside w.if-r.true (omega (arith, room, c.ready-r.ensures.same))
          w.touch.ensures)
      | else-r w ↦ rw (w.buffers-is, w.number-is) (word_failed _ _ _ _ _ _ _ c.choose-slot.ensures
          c.ready-r.ensures.does _ w.if-r.false)
    ]
