-- What a sheet says of a run: its kind, the answer, the steps, the four counts, the same by kind of line, and the
-- slots behind it.
use Rattle.std.specs.Prelude.{ℕ, ◌+◌, ◌≡◌, Bool, List, [], ◌∷◌}
use Rattle.lists.specs.If.{if}
use Rattle.model.specs.Tags.{is_data, is_checked}
use Rattle.model.specs.Log.{Note}
use Rattle.model.specs.Cached.{Cached}
use Rattle.instructions.specs.Calls.{Result, counts}
use Rattle.cache.specs.Lent.{counts_in}
use Rattle.sheets.specs.declared.sheet.Sheet.{Sheet}
use Rattle.sheets.specs.Figures.{SameNumbers}

-- a sum over the notes of a run
unfoldable pub sum_over : (Note → ℕ) → List Note → ℕ
sum_over f [] = 0
sum_over f (note ∷ log) = f note + sum_over f log

-- an ordinary line filled; a protected one
unfoldable pub ordinary_fill : Note → ℕ
ordinary_fill (Note.filled t n ok) = if (is_checked t) 0 1
ordinary_fill (Note.evicted t n dirty) = 0

unfoldable pub protected_fill : Note → ℕ
protected_fill (Note.filled t n ok) = if (is_checked t) 1 0
protected_fill (Note.evicted t n dirty) = 0

-- a dirty ordinary line written; a protected one, sealed
unfoldable pub ordinary_write : Note → ℕ
ordinary_write (Note.filled t n ok) = 0
ordinary_write (Note.evicted t n dirty) = if dirty (if (is_data t) 0 1) 0

unfoldable pub protected_write : Note → ℕ
protected_write (Note.filled t n ok) = 0
protected_write (Note.evicted t n dirty) = if dirty (if (is_data t) 1 0) 0

-- the sheet of a run
pub record Says (warm : Bool) (x : Result Cached) (s : Sheet) : Type 0 where
  pub kind : s.warm ≡ warm
  pub answer : s.report.answer ≡ x.answer
  pub steps : s.report.steps ≡ x.steps
  pub counted : counts_in s.report.counts ≡ counts x
  pub ordinary_filled : s.kinds.ordinaryfilled ≡ sum_over ordinary_fill x.log
  pub protected_filled : s.kinds.protectedfilled ≡ sum_over protected_fill x.log
  pub ordinary_written : s.kinds.ordinarywritten ≡ sum_over ordinary_write x.log
  pub protected_written : s.kinds.protectedwritten ≡ sum_over protected_write x.log
  pub slots : SameNumbers 64 x.machine.memory.dir s.slots
