-- Lists made of N parts of one size: the n-th part after the m-th was, or was not, replaced. One law for lines, MACs
-- and slots.
use Prim.Native.Nat.{ℕ, ◌+◌, ◌*◌, ◌≤◌, ◌<◌}
use native.Mathlib.Nat.{suc-mul, mul-le-mul_right}
use native.Mathlib.Omega.{arith}
use mathlib.Core.Path.{◌≡◌, refl, subst}
use mathlib.Core.Logic.{◌≢◌}
use mathlib.Core.Bool.{Bool, true, false}
use mathlib.Core.List.{List}
use lib.ListN.{length}
use Rattle.lists.specs.If.{if}
use Rattle.lists.specs.Parts.{part_at, put_at}
use Rattle.lists.specs.Bytes.{Bytes}
use Rattle.lists.proofs.PartLaws.{length_part, length-put, part_put, part_other}
use Rattle.lists.proofs.ByteLaws.{bytes-put}

-- the n-th of N parts lies within the list
pub nth_fits : (k N n : ℕ) → n < N → n * k + k ≤ N * k
nth_fits k N n h = subst (λ (z : ℕ). z ≤ N * k) (suc-mul n k) (mul-le-mul_right k h)

module _ {ℓ} {A : Type ℓ} (k N : ℕ) (l : List A) (e : length l ≡ N * k) where
  within : (n : ℕ) → n < N → n * k + k ≤ length l
  within n h = rw e (nth_fits k N n h)

  pub nth_length : (n : ℕ) → n < N → length (part_at (n * k) k l) ≡ k
  nth_length n h = length_part (n * k) k l (within n h)

  pub nth_put-length : (w : Bool) (m : ℕ) (x : List A) → m < N → length x ≡ k
      → length (if w (put_at (m * k) k x l) l) ≡ N * k
  nth_put-length true m x h q = rw (length-put (m * k) k x l q (within m h)) e
  nth_put-length false m x h q = e

  pub nth_put-here : (w : Bool) (m : ℕ) (x : List A) → m < N → length x ≡ k
      → part_at (m * k) k (if w (put_at (m * k) k x l) l) ≡ if w x (part_at (m * k) k l)
  nth_put-here true m x h q = part_put (m * k) k x l q (omega (arith, within m h))
  nth_put-here false m x h q = refl

  pub nth_put_other : (w : Bool) (n m : ℕ) (x : List A) → m < N → length x ≡ k → n ≢ m
      → part_at (n * k) k (if w (put_at (m * k) k x l) l) ≡ part_at (n * k) k l
  nth_put_other true n m x h q d = part_other k n m x l d q (within m h)
  nth_put_other false n m x h q d = refl

pub nth_put-bytes : (k m : ℕ) (w : Bool) (x l : List ℕ) → Bytes x → Bytes l
    → Bytes (if w (put_at (m * k) k x l) l)
nth_put-bytes k m true x l b d = bytes-put (m * k) k x l b d
nth_put-bytes k m false x l b d = d
