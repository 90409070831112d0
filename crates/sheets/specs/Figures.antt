-- How a sheet's figures are read off what a run reported.
use Rattle.std.specs.Prelude.{ℕ, ◌+◌, ◌<◌, ◌≡◌, Bool, List, get_or}
use Rattle.machine.specs.declared.answer.Report.{Report}
use Rattle.sheets.specs.declared.sheet.Kinds.{Kinds}
use Rattle.sheets.specs.declared.sheet.Sheet.{Sheet}

-- ordinary and protected lines together are all lines; the protected ones are those with a MAC checked or made
pub record KindsOf (filled written checked made : ℕ) (k : Kinds) : Type 0 where
  pub all_filled : k.ordinaryfilled + k.protectedfilled ≡ filled
  pub all_written : k.ordinarywritten + k.protectedwritten ≡ written
  pub checked_ones : k.protectedfilled ≡ checked
  pub signed_ones : k.protectedwritten ≡ made

-- the first n numbers are the directory's, 0 past its end
pub record SameNumbers (n : ℕ) (dir numbers : List ℕ) : Type 0 where
  pub each : (i : ℕ) → i < n → get_or numbers i 0 ≡ get_or dir i 0

-- a sheet of a report and of the directory behind the run
pub record FilledIn (warm : Bool) (x : Report) (dir : List ℕ) (s : Sheet) : Type 0 where
  pub kind : s.warm ≡ warm
  pub report : s.report ≡ x
  pub kinds : KindsOf x.counts.filled x.counts.written x.counts.checked x.counts.made s.kinds
  pub slots : SameNumbers 64 dir s.slots
