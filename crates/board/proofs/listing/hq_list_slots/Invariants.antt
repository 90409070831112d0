-- The rows below i have their records, the others are as they were lent.
use Rattle.std.proofs.Common.{◌≡◌}
use Rattle.directory.specs.Direct.{direct}
use Rattle.board.proofs.FilledRow.{row_at, written}
use Rattle.board.proofs.listing.hq_list_slots.Given as goal

abbrev pub invariant-loop-i : goal.invariant-loop-i
invariant-loop-i l = l.rows ≡ written (row_at direct l.dir) l.i l.initial.rows
