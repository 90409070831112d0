-- The loop ends where every row is filled: that row is what the meaning's listing gives.
use Rattle.std.proofs.Common.{◌≡◌, length, arith}
use Rattle.machine.specs.Lent.{handed}
use Rattle.board.proofs.FilledRow.{refused-lists, filled-lists}
use Rattle.board.proofs.listing.hq_list_slots.Goals as goal

pub returns-in-Err : goal.returns-in-Err
returns-in-Err c = refused-lists _ _ c.in-Err.no c.in-Err.ensures (rw c.number.ensures at c.uncounted.ensures)

pub returns : goal.returns
returns c =
    let a = c.args in
    let full : c.loop-i.i ≡ length a.rows.now = omega arith in
    rw (c.loop-i.invariant, full)
    (filled-lists (handed a.p.now a.mem.now a.macs.now a.cache.now a.dir.now) a.rows.now c.in_default.ensures
    c.uncounted-2.ensures)
