-- Bytes copied into a buffer or into a part of it, as code lends that part and gets it back.
use mathlib.Core.Path.{◌≡◌, ap, ap₂, ◌∙◌}
use mathlib.Core.List.{List, ◌++◌, append-nil}
use Prim.Native.Nat.{ℕ, ◌+◌, ◌-◌, ◌≤◌}
use native.Mathlib.Omega.{arith}
use lib.ListN.{length, take, drop, length-drop, drop_of_length-le}
use lib.Seq.{take-length, take_all, length-take-le}
use Rattle.lists.specs.Parts.{put_at}

module _ {ℓ} {A : Type ℓ} where
  -- a copy over a whole buffer of the same length
  pub whole_copied : (src dst dst' : List A) → length src ≡ length dst → dst' ≡ take (length src) src
      ++ drop (length src) dst → dst' ≡ src
  whole_copied src dst dst' e copy =
      copy ∙ ap₂ ◌++◌ (take-length src) (drop_of_length-le dst {i = length src} (omega arith)) ∙ append-nil src

  -- a copy over the rest of a buffer from place a on
  pub rest-copied : (l src : List A) (a : ℕ) → a + length src ≤ length l
      → take a l ++ ((take (length src) src ++ drop (length src) (take (length l - a) (drop a l)))
      ++ drop (length l - a) (drop a l))
      ≡ put_at a (length src) src l
  unfolding put_at
  rest-copied l src a h =
      let rest = drop a l in
      let size : length rest ≡ length l - a = length-drop a l in
      ap (λ (r : List A). take a l ++ r)
      (ap₂ (λ (p q : List A). p ++ q)
      (ap₂ (λ (p q : List A). p ++ drop (length src) q) (take-length src)
      (take_all (length l - a) rest (omega (arith, size))))
      (drop_of_length-le rest {i = length l - a} (omega (arith, size)))
      ∙ append-nil (src ++ drop (length src) rest))

  -- a copy over a part of a buffer, from place a to place e
  pub part_copied : (l src : List A) (a e : ℕ) → e - a ≡ length src → a + length src ≤ length l
      → take a l ++ ((take (length src) src ++ drop (length src) (take (e - a) (drop a l)))
      ++ drop (e - a) (drop a l))
      ≡ put_at a (length src) src l
  unfolding put_at
  part_copied l src a e size h =
      ap (λ (k : ℕ). take a l ++ ((take (length src) src ++ drop (length src) (take k (drop a l)))
      ++ drop k (drop a l))) size
      ∙ ap (λ (r : List A). take a l ++ (r ++ drop (length src) (drop a l)))
      (ap₂ ◌++◌ (take-length src)
      (drop_of_length-le (take (length src) (drop a l)) {i = length src}
      (rw (length-take-le (length src) (drop a l) (omega (arith, length-drop a l))) (omega arith)))
      ∙ append-nil src)
