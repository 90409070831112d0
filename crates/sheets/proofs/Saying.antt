-- A sheet that was filled in from what a run reported and left says what that run did.
use mathlib.Core.Path.{◌≡◌, sym, ap, ◌∙◌}
use mathlib.Core.Bool.{Bool}
use mathlib.Core.List.{List}
use Prim.Native.Nat.{ℕ, ◌≤◌}
use native.Mathlib.Omega.{arith}
use lib.ListN.{get_or}
use Rattle.model.specs.Log.{Counts, counts_of}
use Rattle.model.specs.Cached.{Cached}
use Rattle.instructions.specs.Calls.{Machine, Result, counts}
use Rattle.cache.specs.Lent.{counts_in}
use Rattle.machine.specs.declared.answer.Report.{Report}
use Rattle.host.specs.Outcome.{Gives}
use Rattle.sheets.specs.declared.sheet.Sheet.{Sheet}
use Rattle.sheets.specs.Figures.{FilledIn}
use Rattle.sheets.specs.Says.{sum_over, protected_fill, protected_write, Says}
use Rattle.sheets.proofs.Notes.{adds, within}

module _ {x : Result Cached} {r : Report} {buffer : List ℕ} {m : Machine Cached} (g : Gives x r buffer m) where
  -- what a sheet asks of the counts
  pub orderly-counts : (r.counts.checked ≤ r.counts.filled) × (r.counts.made ≤ r.counts.written)
  unfolding counts
  orderly-counts = within x.log g.counted

  pub says : (warm : Bool) (s : Sheet) → FilledIn warm r m.memory.dir s → Says warm x s
  unfolding counts
  says warm s f =
      let a = adds x.log in
      let k = f.kinds in
      let filled : r.counts.filled ≡ (counts_of x.log).filled = ap (λ (c : Counts). c.filled) g.counted in
      let written : r.counts.written ≡ (counts_of x.log).written = ap (λ (c : Counts). c.written) g.counted in
      let checked : r.counts.checked ≡ (counts_of x.log).checked = ap (λ (c : Counts). c.checked) g.counted in
      let made : r.counts.made ≡ (counts_of x.log).made = ap (λ (c : Counts). c.made) g.counted in
      let fills : s.kinds.protectedfilled ≡ sum_over protected_fill x.log = k.checked_ones ∙ checked
      ∙ sym a.checked in
      let writes : s.kinds.protectedwritten ≡ sum_over protected_write x.log = k.signed_ones ∙ made
      ∙ sym a.made in
      record {
        kind = f.kind;
        answer = ap (λ (y : Report). y.answer) f.report ∙ g.answered;
        steps = ap (λ (y : Report). y.steps) f.report ∙ g.stepped;
        counted = ap (λ (y : Report). counts_in y.counts) f.report ∙ g.counted;
        ordinary_filled = omega (arith, k.all_filled, filled, a.filled, fills);
        protected_filled = fills;
        ordinary_written = omega (arith, k.all_written, written, a.written, writes);
        protected_written = writes;
        slots = record {
          each = λ i h. f.slots.each i h ∙ ap (λ (y : Machine Cached). get_or y.memory.dir i 0)
              g.left;
        };
      }
