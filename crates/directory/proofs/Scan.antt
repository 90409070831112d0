-- The scan of a directory finds it orderly exactly where it is, and a directory of zeros is orderly and empty.
use Prim.Native.Nat.{ℕ, zero, suc, ◌+◌, ◌<◌, ◌≤◌}
use native.Mathlib.Omega.{arith}
use mathlib.Core.Path.{◌≡◌, refl}
use mathlib.Core.Bool.{Bool, true}
use Rattle.std.proofs.lemmas.Bool.Decides.{same_from_decides}
use Rattle.std.proofs.Common.{◌↔◌, IsTrue, EachIndex, slice_index}
use mathlib.Core.List.{List, [], ◌∷◌}
use lib.ListN.{length, get_or}
use Rattle.lists.specs.Bytes.{zeros}
use Rattle.lists.proofs.ByteLaws.{length-zeros, get_d_zeros}
use Rattle.lists.proofs.Cases.{both_hold}
use Rattle.directory.specs.Direct.{fine, all_fine, OrderlyDirect}
use Rattle.directory.proofs.NumberLaws.{zero_fine}

-- the scan from slot p on passed: each number is right
scan_each : (N C p : ℕ) (ds : List ℕ) → all_fine N C p ds ≡ true → (i : ℕ) → i < length ds
    → fine N C (p + i) (get_or ds i 0) ≡ true
unfolding all_fine
scan_each N C p [] h i l = absurd (omega arith)
scan_each N C p (d ∷ ds) h zero l =
    let e : p ≡ p + 0 = omega arith in
    rw (← e) (both_hold (fine N C p d) (all_fine N C (p + 1) ds) h).0
scan_each N C p (d ∷ ds) h (suc i) l =
    let e : p + 1 + i ≡ p + suc i = omega arith in
    rw (← e) (scan_each N C (p + 1) ds (both_hold (fine N C p d) (all_fine N C (p + 1) ds) h).1 i (omega arith))

-- each number is right: the scan passes
each_scan : (N C p : ℕ) (ds : List ℕ) → ((i : ℕ) → i < length ds → fine N C (p + i) (get_or ds i 0) ≡ true)
    → all_fine N C p ds ≡ true
unfolding all_fine
each_scan N C p [] h = refl
each_scan N C p (d ∷ ds) h =
    let e : p + 0 ≡ p = omega arith in
    rw (rw e at (h 0 (omega arith)))
    (each_scan N C (p + 1) ds
    (λ i l.
    let q : p + 1 + i ≡ p + suc i = omega arith in
    rw q (h (suc i) (omega arith))))

pub scan_orderly : (N : ℕ) (dir : List ℕ) → 0 < length dir → N ≤ 1024
    → all_fine N (length dir) 0 dir ≡ true
    → OrderlyDirect N dir
scan_orderly N dir s l h =
    record {
      slots = s;
      lines = l;
      numbers =
          λ p hp.
          let e : 0 + p ≡ p = omega arith in
          rw e at (scan_each N (length dir) 0 dir h p hp);
    }

pub orderly_scan : (N : ℕ) (dir : List ℕ) → OrderlyDirect N dir → all_fine N (length dir) 0 dir ≡ true
orderly_scan N dir o =
    each_scan N (length dir) 0 dir
    (λ i l.
    let e : 0 + i ≡ i = omega arith in
    rw e (o.numbers i l))

-- the scan passes exactly where each number is right in its slot
pub scan_decides : (N C : ℕ) (dir : List ℕ) (r : Bool)
    → (IsTrue r ↔ EachIndex dir (λ k. fine N C k (slice_index dir k) ≡ true)) → r ≡ all_fine N C 0 dir
scan_decides N C dir r h =
    same_from_decides r (all_fine N C 0 dir) h (
      (λ e i l.
          let z : 0 + i ≡ i = omega arith in
          rw z at (scan_each N C 0 dir e i l)),
      (λ f.
          each_scan N C 0 dir
          (λ i l.
          let z : 0 + i ≡ i = omega arith in
          rw z (f i l))),
    )

-- a directory of zeros is orderly
pub zeros-orderly : (N C : ℕ) → 0 < C → N ≤ 1024 → OrderlyDirect N (zeros C)
unfolding zeros
zeros-orderly N C h l =
    record {
      slots = rw (length-zeros C) h;
      lines = l;
      numbers = λ p hp. rw (get_d_zeros C p (rw (length-zeros C) at hp)) (zero_fine N (length (zeros C)) p 0 refl);
    }
