-- The figures by kind of line add up to the four counts, note by note.
use mathlib.Core.Path.{◌≡◌, refl, ap}
use mathlib.Core.Bool.{Bool, true, false}
use mathlib.Core.List.{List, [], ◌∷◌}
use Prim.Native.Nat.{ℕ, ◌+◌, ◌≤◌}
use native.Mathlib.Omega.{arith}
use Rattle.lists.specs.If.{if}
use Rattle.model.specs.Tags.{is_data, is_checked}
use Rattle.model.specs.Log.{Note, Counts, no_counts, plus, counts_of_note, counts_of}
use Rattle.sheets.specs.Says.{sum_over, ordinary_fill, protected_fill, ordinary_write, protected_write}

-- what the sums by kind make of the counts
pub record Adds (log : List Note) (k : Counts) : Type 0 where
  pub filled : sum_over ordinary_fill log + sum_over protected_fill log ≡ k.filled
  pub checked : sum_over protected_fill log ≡ k.checked
  pub written : sum_over ordinary_write log + sum_over protected_write log ≡ k.written
  pub made : sum_over protected_write log ≡ k.made

one_or_other : (b : Bool) → if b 0 1 + if b 1 0 ≡ 1
one_or_other true = refl
one_or_other false = refl

dirty-one : (d b : Bool) → if d (if b 0 1) 0 + if d (if b 1 0) 0 ≡ if d 1 0
dirty-one true true = refl
dirty-one true false = refl
dirty-one false b = refl

pub adds : (log : List Note) → Adds log (counts_of log)
unfolding counts_of counts_of_note no_counts plus sum_over ordinary_fill protected_fill ordinary_write protected_write
adds [] = record { filled = refl; checked = refl; written = refl; made = refl }
adds (Note.filled t n ok ∷ log) =
    let r = adds log in
    record {
      filled = omega (arith, one_or_other (is_checked t), r.filled);
      checked = ap (λ (x : ℕ). if (is_checked t) 1 0 + x) r.checked;
      written = omega (arith, r.written);
      made = omega (arith, r.made);
    }
adds (Note.evicted t n d ∷ log) =
    let r = adds log in
    record {
      filled = omega (arith, r.filled);
      checked = omega (arith, r.checked);
      written = omega (arith, dirty-one d (is_data t), r.written);
      made = ap (λ (x : ℕ). if d (if (is_data t) 1 0) 0 + x) r.made;
    }

-- no more MACs are checked than lines filled, no more made than lines written
pub within : (log : List Note) {k : Counts} → k ≡ counts_of log → (k.checked ≤ k.filled)
    × (k.made ≤ k.written)
within log e = let r = adds log in rw e (omega (arith, r.filled, r.checked), omega (arith, r.written, r.made))
