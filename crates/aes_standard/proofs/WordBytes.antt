-- The bytes of a word: each is below 256, and those of a sum are the sums.
use mathlib.Core.Path.{◌≡◌, ap, ◌∙◌}
use Prim.Native.Nat.{ℕ, ◌-◌, ◌*◌, ◌/◌, ◌%◌, ◌^◌, ◌<◌}
use native.Mathlib.Omega.{arith}
use Rattle.field.specs.Field.{◌⊕◌}
use Rattle.field.proofs.Xor.{⊕-div, ⊕-mod}
use Rattle.aes_standard.specs.State.{byte_of}

pub byte_of-lt : (w r : ℕ) → byte_of w r < 256
unfolding byte_of
byte_of-lt w r = let x : ℕ = w / 2 ^ (8 * (3 - r)) in omega arith

pub byte_of-⊕ : (x y r : ℕ) → byte_of (x ⊕ y) r ≡ byte_of x r ⊕ byte_of y r
unfolding byte_of
byte_of-⊕ x y r =
    ap (λ (z : ℕ). z % 256) (⊕-div x y (8 * (3 - r)))
    ∙ ⊕-mod (x / 2 ^ (8 * (3 - r))) (y / 2 ^ (8 * (3 - r))) 8

-- the last byte, as the code takes it
pub byte_of-last : (w : ℕ) → w % 256 ≡ byte_of w 3
unfolding byte_of
byte_of-last w = omega arith
