-- The bounds on what a request counts: an access fills one line and writes one, evicting a line writes one, evicting
-- everything one for each slot.
use Prim.Native.Nat.{ℕ, zero, suc, ◌+◌, ◌≤◌}
use native.Mathlib.Omega.{arith}
use mathlib.Core.Bool.{Bool, true, false}
use mathlib.Core.List.{List, [], ◌∷◌, ◌++◌}
use lib.ListN.{length}
use Rattle.lists.specs.If.{if}
use Rattle.lists.proofs.Cases.{by_test}
use Rattle.model.specs.Tags.{Tag, is_data, is_checked}
use Rattle.model.specs.Cipher.{Cipher}
use Rattle.model.specs.Log.{Note, no_counts, plus, counts_of_note, counts_of}
use Rattle.model.specs.Placement.{Placement}
use Rattle.model.specs.Cached.{Cached, serves, holds, hit_place, evict_place, fill_place, then_do, ready_place, access_place}
use Rattle.model.specs.Cached.{evict_line, evict_from, evict_all}
use Rattle.model.proofs.Sums.{counts-append}
use Rattle.keeps.specs.Within.{Within}

pub within_none : Within 0 0 []
unfolding counts_of no_counts
within_none = record { filled = omega arith; written = omega arith; checked = omega arith; made = omega arith }

pub within_more : (f w g v : ℕ) (log : List Note) → f ≤ g → w ≤ v → Within f w log → Within g v log
within_more f w g v log h k W = record {
  filled = omega (arith, W.filled);
  written = omega (arith, W.written);
  checked = W.checked;
  made = W.made;
}

pub within-append : (f w g v : ℕ) (a b : List Note) → Within f w a → Within g v b
    → Within (f + g) (w + v) (a ++ b)
unfolding plus
within-append f w g v a b A B =
    record {
      filled = rw (counts-append a b) (omega (arith, A.filled, B.filled));
      written = rw (counts-append a b) (omega (arith, A.written, B.written));
      checked = rw (counts-append a b) (omega (arith, A.checked, B.checked));
      made = rw (counts-append a b) (omega (arith, A.made, B.made));
    }

-- a test counts at most one
at_most_one : (b : Bool) → if b 1 0 ≤ 1
at_most_one true = omega arith
at_most_one false = omega arith

no_more : (b d : Bool) → if b (if d 1 0) 0 ≤ if b 1 0
no_more true d = at_most_one d
no_more false d = omega arith

-- one note
within-evicted : (t : Tag) (n : ℕ) (dirty : Bool) → Within 0 1 (Note.evicted t n dirty ∷ [])
unfolding counts_of counts_of_note plus no_counts
within-evicted t n dirty =
    record {
      filled = omega arith;
      written = omega (arith, at_most_one dirty);
      checked = omega arith;
      made = omega (arith, no_more dirty (is_data t));
    }

within-filled : (t : Tag) (n : ℕ) (ok : Bool) → Within 1 0 (Note.filled t n ok ∷ [])
unfolding counts_of counts_of_note plus no_counts
within-filled t n ok = record {
  filled = omega arith;
  written = omega arith;
  checked =
      omega (arith, at_most_one (is_checked t));
  made = omega arith;
}

module _ (c : Cipher) (P : Placement) where
  pub evict-within : (s : Cached) (p : ℕ) → Within 0 1 (evict_place c P p s).log
  unfolding evict_place
  evict-within s p =
      let e = P.look s.dir p in
      by_test e.used (λ h. rw h (within-evicted e.tag e.line e.dirty))
      (λ h. rw h (within_more 0 0 0 1 [] (omega arith) (omega arith) within_none))

  pub fill_within : (s : Cached) (tag : Tag) (n p : ℕ) → Within 1 0 (fill_place c P tag n p s).log
  unfolding fill_place
  fill_within s tag n p = within-filled tag n _

  pub ready-within : (s : Cached) (tag : Tag) (n p : ℕ) → Within 1 1 (ready_place c P tag n p s).log
  unfolding ready_place then_do hit_place
  ready-within s tag n p =
      by_test (serves (P.look s.dir p) tag n)
      (λ h. rw h (within_more 0 0 1 1 [] (omega arith) (omega arith) within_none))
      (λ h. rw h (within-append 0 1 1 0 (evict_place c P p s).log
      (fill_place c P tag n p (evict_place c P p s).state).log (evict-within s p)
      (fill_within (evict_place c P p s).state tag n p)))

  pub drop-within : (s : Cached) (n : ℕ) → Within 0 1 (evict_line c P n s).log
  unfolding evict_line
  drop-within s n =
      by_test (holds (P.look s.dir (P.choose s.dir n)) n)
      (λ h. rw h (evict-within s (P.choose s.dir n)))
      (λ h. rw h (within_more 0 0 0 1 [] (omega arith) (omega arith) within_none))

  pub from-within : (k p : ℕ) (s : Cached) → Within 0 k (evict_from c P k p s).log
  unfolding evict_from then_do
  from-within zero p s = within_none
  from-within (suc k) p s =
      let t = (evict_place c P p s).state in
      within_more 0 (1 + k) 0 (suc k) ((evict_place c P p s).log ++ (evict_from c P k (p + 1) t).log) (omega arith)
      (omega arith)
      (within-append 0 1 0 k (evict_place c P p s).log (evict_from c P k (p + 1) t).log (evict-within s p)
      (from-within k (p + 1) t))

  pub all-within : (s : Cached) → Within 0 (length s.dir) (evict_all c P s).log
  unfolding evict_all
  all-within s = from-within (length s.dir) 0 s

  -- any request: an access may fill one line and write one, the bus and a drop may write one, everything may write one
  -- for each slot
  pub access-within : (s : Cached) (tag : Tag) (n p : ℕ) (write : Bool) (change : List ℕ → List ℕ)
      → Within 1 1 (access_place c P tag n p write change s).log
  unfolding access_place
  access-within s tag n p write change = ready-within s tag n p
