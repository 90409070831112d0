-- `machine::phase::fetch` meets its promise.
use Rattle.machine.proofs.Serving.{fault_none, fault_some}
use Rattle.machine.proofs.Granted.{fetch_idle, fetch_read, fetch_failed, word-slot, word_room}
use Rattle.cache.proofs.Dropping.{some_slot}
use native.Mathlib.Omega.{arith}
use Rattle.machine.proofs.phase.fetch.Goals as goal
use Rattle.machine.proofs.phase.fetch.Goals.{then-r, else-r}

pub returns-then-is_some-clause-finds : goal.returns-then-is_some-clause-finds
returns-then-is_some-clause-finds c =
    fetch_idle _ _ _ _ _ c.none.ensures (fault_some _ c.if-is_some.ensures)

pub choose-slot-requires : goal.choose-slot-requires
choose-slot-requires c = some_slot _ c.requires.fit

pub ready-r-requires-clause-slot_in_bounds : goal.ready-r-requires-clause-slot_in_bounds
ready-r-requires-clause-slot_in_bounds c =
    let inside = c.requires.inside (fault_none _ c.if-is_some.ensures) in
    (word-slot _ _ _ _ c.requires.fit c.choose-slot.ensures inside, inside.line)

pub overflow_mul-slot : goal.overflow_mul-slot
overflow_mul-slot c =
    let inside = c.requires.inside (fault_none _ c.if-is_some.ensures) in
    let room = word_room _ _ _ _ c.requires.fit c.choose-slot.ensures inside in
    omega (arith, room, c.well_formed)

pub overflow_add-slot : goal.overflow_add-slot
overflow_add-slot c =
    let inside = c.requires.inside (fault_none _ c.if-is_some.ensures) in
    let room = word_room _ _ _ _ c.requires.fit c.choose-slot.ensures inside in
    omega (arith, room, c.well_formed)

pub read_four-requires : goal.read_four-requires
read_four-requires c =
    let inside = c.requires.inside (fault_none _ c.if-is_some.ensures) in
    let room = word_room _ _ _ _ c.requires.fit c.choose-slot.ensures inside in
    omega (arith, room, c.ready-r.ensures.same)

pub returns-clause-finds : goal.returns-clause-finds
returns-clause-finds c =
    let none = fault_none _ c.if-is_some.ensures in
    elim c.if-r.branch [
      | then-r w ↦ rw (w.buffers-is, w.number-is) (fetch_read _ _ _ _ _ _ _ _ _ c.choose-slot.ensures none
          c.code_tag.ensures c.ready-r.ensures.does _ _ (c.requires.inside none) w.if-r.true w.read_four.ensures.0)
      | else-r w ↦ rw (w.buffers-is, w.number-is) (fetch_failed _ _ _ _ _ _ _ _ _ c.choose-slot.ensures none
          c.code_tag.ensures c.ready-r.ensures.does w.if-r.false)
    ]
