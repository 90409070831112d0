-- The laws of the sum of two elements: exclusive or.
use mathlib.Core.Path.{◌≡◌, refl, sym, ap, ap₂, ◌∙◌}
use Prim.Native.Nat.{ℕ, ◌*◌, ◌/◌, ◌%◌, ◌^◌, ◌<◌}
use native.Mathlib.Omega.{arith}
use native.Mathlib.Nat.{add-zero}
use lib.Bits.{bit_xor, xor_zero_r, xor_comm, xor_self, xor_lt, xor_shr, xor_mod, xor_block}
use Rattle.lists.proofs.Xor.{xor_assoc}
use Rattle.field.specs.Field.{◌⊕◌}

pub ⊕_comm : (a b : ℕ) → a ⊕ b ≡ b ⊕ a
unfolding ◌⊕◌
⊕_comm a b = xor_comm a b

pub ⊕_self : (a : ℕ) → a ⊕ a ≡ 0
unfolding ◌⊕◌
⊕_self a = xor_self a

pub ⊕_zero : (a : ℕ) → a ⊕ 0 ≡ a
unfolding ◌⊕◌
⊕_zero a = xor_zero_r a

pub zero_⊕ : (a : ℕ) → 0 ⊕ a ≡ a
unfolding ◌⊕◌
zero_⊕ a = refl

pub ⊕-lt : (k a b : ℕ) → a < 2 ^ k → b < 2 ^ k → a ⊕ b < 2 ^ k
unfolding ◌⊕◌
⊕-lt k a b = xor_lt k a b

pub ⊕-div : (a b k : ℕ) → (a ⊕ b) / 2 ^ k ≡ (a / 2 ^ k) ⊕ (b / 2 ^ k)
unfolding ◌⊕◌
⊕-div a b k = xor_shr a b k

pub ⊕-mod : (a b k : ℕ) → (a ⊕ b) % 2 ^ k ≡ (a % 2 ^ k) ⊕ (b % 2 ^ k)
unfolding ◌⊕◌
⊕-mod a b k = xor_mod a b k

pub ⊕_assoc : (a b c : ℕ) → a ⊕ b ⊕ c ≡ a ⊕ (b ⊕ c)
unfolding ◌⊕◌
⊕_assoc a b c = xor_assoc a b c

-- two sums, summed crosswise
pub ⊕_swap : (a b c d : ℕ) → (a ⊕ b) ⊕ (c ⊕ d) ≡ (a ⊕ c) ⊕ (b ⊕ d)
⊕_swap a b c d =
    ⊕_assoc a b (c ⊕ d)
    ∙ ap (λ (x : ℕ). a ⊕ x) (sym (⊕_assoc b c d) ∙ ap (λ (x : ℕ). x ⊕ d) (⊕_comm b c)
    ∙ ⊕_assoc c b d)
    ∙ sym (⊕_assoc a c (b ⊕ d))

-- adding twice takes away again
pub ⊕-again : (a b : ℕ) → a ⊕ b ⊕ b ≡ a
⊕-again a b = ⊕_assoc a b b ∙ ap (λ (x : ℕ). a ⊕ x) (⊕_self b) ∙ ⊕_zero a

-- doubling goes over the sum
pub ⊕_double : (a b : ℕ) → (a ⊕ b) * 2 ≡ (a * 2) ⊕ (b * 2)
unfolding ◌⊕◌
⊕_double a b =
    sym (ap₂ bit_xor (sym (add-zero (a * 2))) (sym (add-zero (b * 2)))
    ∙ xor_block 1 a b 0 0 (omega arith) (omega arith) ∙ add-zero (bit_xor a b * 2))
