-- The counts of two logs in a row are the sums of theirs.
use Prim.Native.Nat.{ℕ, ◌+◌}
use native.Mathlib.Omega.{arith}
use mathlib.Core.Path.{◌≡◌, refl, sym, ap, ◌∙◌}
use mathlib.Core.List.{List, [], ◌∷◌, ◌++◌}
use mathlib.Core.Bool.{Bool, true, false}
use Rattle.lists.specs.If.{if}
use Rattle.model.specs.Tags.{Tag, is_data, is_checked}
use Rattle.model.specs.Log.{Note, Counts, no_counts, plus, counts_of_note, counts_of}

pub plus_none : (a : Counts) → plus no_counts a ≡ a
unfolding plus no_counts
plus_none a =
    let f : 0 + a.filled ≡ a.filled = omega arith in
    let w : 0 + a.written ≡ a.written = omega arith in
    let c : 0 + a.checked ≡ a.checked = omega arith in
    let m : 0 + a.made ≡ a.made = omega arith in
    λ i. record { filled = f i; written = w i; checked = c i; made = m i }

pub plus_assoc : (a b c : Counts) → plus (plus a b) c ≡ plus a (plus b c)
unfolding plus
plus_assoc x y z =
    let f : x.filled + y.filled + z.filled ≡ x.filled + (y.filled + z.filled) = omega arith in
    let w : x.written + y.written + z.written ≡ x.written + (y.written + z.written) = omega arith in
    let c : x.checked + y.checked + z.checked ≡ x.checked + (y.checked + z.checked) = omega arith in
    let m : x.made + y.made + z.made ≡ x.made + (y.made + z.made) = omega arith in
    λ i. record { filled = f i; written = w i; checked = c i; made = m i }

pub counts-append : (a b : List Note) → counts_of (a ++ b) ≡ plus (counts_of a) (counts_of b)
unfolding counts_of
counts-append [] b = sym (plus_none (counts_of b))
counts-append (x ∷ a) b = ap (plus (counts_of_note x)) (counts-append a b)
    ∙ sym (plus_assoc (counts_of_note x) (counts_of a) (counts_of b))

-- a fill counts one line filled, and one MAC checked under a tag; an eviction counts a line written where it was dirty,
-- and a MAC made for a data line
pub counts-filled : (t : Tag) (n : ℕ) (ok : Bool) → counts_of (Note.filled t n ok ∷ []) ≡ record {
  filled = 1;
  written = 0;
  checked = if (is_checked t) 1 0;
  made = 0;
}
unfolding counts_of counts_of_note plus no_counts
counts-filled t n ok =
    let e : (if (is_checked t) 1 0) + 0 ≡ if (is_checked t) 1 0 = omega arith in
    λ i. record { filled = 1; written = 0; checked = e i; made = 0 }

pub counts-evicted : (t : Tag) (n : ℕ) → counts_of (Note.evicted t n true ∷ []) ≡ record {
  filled = 0;
  written =
      1;
  checked = 0;
  made = if (is_data t) 1 0;
}
unfolding counts_of counts_of_note plus no_counts
counts-evicted t n =
    let e : (if (is_data t) 1 0) + 0 ≡ if (is_data t) 1 0 = omega arith in
    λ i. record { filled = 0; written = 1; checked = 0; made = e i }

pub counts_clean : (t : Tag) (n : ℕ) → counts_of (Note.evicted t n false ∷ []) ≡ no_counts
unfolding counts_of counts_of_note plus no_counts
counts_clean t n = refl
