-- The numbers of an array that a closure gives one after the other, itself unchanged.
use Rattle.std.proofs.Common.{◌≡◌, ◌∙◌, ℕ, zero, suc, ◌+◌, ◌<◌, ◌≤◌, zero-le, List, arith}
use Rattle.std.specs.Fn.{Called}
use Rattle.std.specs.Array.{IsFromFnResultFrom, IsFromFnResult}
use denote.Param.Members.{Mut}
use lib.ListN.{get_or}
use Rattle.lists.proofs.Cases.{by-eq}

module _ {F : Type 0} (g : Mut F (ℕ × Unit {0}) ℕ) (value : ℕ → ℕ) (f : F)
    (step : (i y : ℕ) (q : F) → Called g f (i, tt) y q → (y ≡ value i) × (q ≡ f)) where
  made_from : (n i : ℕ) (ys : List ℕ) → IsFromFnResultFrom g f ys i n → (k : ℕ) → i ≤ k → k < i + n
      → get_or ys k 0 ≡ value k
  made_from zero i ys made k low high = absurd (omega arith)
  made_from (suc n) i ys (q, y, at, call, rest) k low high =
      let made = step i y q call in
      by-eq k i (λ (same : k ≡ i). rw same (at.1 0 ∙ made.0))
      (λ (other : k ≡ i → ⊥). made_from n (i + 1) ys (rw made.1 at rest) k (omega (arith, other)) (omega arith))

  pub made_at : (n : ℕ) (ys : List ℕ) → IsFromFnResult g f ys n → (k : ℕ) → k < n → get_or ys k 0 ≡ value k
  made_at n ys made k low = made_from n 0 ys made.each k zero-le (omega arith)
