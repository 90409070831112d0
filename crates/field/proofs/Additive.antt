-- Maps that go over sums: two of them that agree at the eight powers of two agree at every byte.
use mathlib.Core.Path.{◌≡◌, refl, sym, ap, ap₂, ◌∙◌}
use mathlib.Core.Bool.{Bool}
use Prim.Native.Nat.{ℕ, zero, suc, ◌*◌, ◌/◌, ◌%◌, ◌^◌, ◌<◌}
use native.Mathlib.Nat.{div-add-mod', div-lt_iff_lt-mul, mod-lt, mul_comm, pow-suc, zero-mul, one-mul}
use native.Mathlib.Omega.{arith}
use lib.Bits.{xor_shifted}
use lib.Dec.{T, eqb, eqb→eq}
use lib.ListN.{replicate}
use lib.Pow.{pow_pos}
use Rattle.field.specs.Field.{◌⊕◌}
use Rattle.field.proofs.Every.{every, all-below}
use Rattle.field.proofs.Xor.{⊕_self}

pub record Additive (f : ℕ → ℕ) : Type 0 where
  pub sum : (x y : ℕ) → f (x ⊕ y) ≡ f x ⊕ f y

-- the map to the same, and the map to nothing
pub additive_same : Additive (λ x. x)
additive_same = record { sum = λ x y. refl }

pub additive_none : Additive (λ x. 0)
unfolding ◌⊕◌
additive_none = record { sum = λ x y. refl }

-- a number is the sum of its digits from n on and of those below
high_⊕-low : (n x : ℕ) → (x / 2 ^ n * 2 ^ n) ⊕ (x % 2 ^ n) ≡ x
unfolding ◌⊕◌
high_⊕-low n x = xor_shifted (x / 2 ^ n) n (x % 2 ^ n) (mod-lt x (pow_pos n)) ∙ div-add-mod' x (2 ^ n)

additive_zero : (f : ℕ → ℕ) → Additive f → f 0 ≡ 0
unfolding ◌⊕◌
additive_zero f h = h.sum 0 0 ∙ ⊕_self (f 0)

module _ (f g : ℕ → ℕ) (hf : Additive f) (hg : Additive g) where
  -- at a digit of which it is known at the power of two
  at-digit : (n d : ℕ) → d < 2 → f (2 ^ n) ≡ g (2 ^ n) → f (d * 2 ^ n) ≡ g (d * 2 ^ n)
  at-digit n zero lt e = rw zero-mul (additive_zero f hf ∙ sym (additive_zero g hg))
  at-digit n (suc zero) lt e = rw one-mul e
  at-digit n (suc (suc d)) lt e = absurd (omega arith)

  below_power : (n : ℕ) → ((i : ℕ) → i < n → f (2 ^ i) ≡ g (2 ^ i)) → (x : ℕ) → x < 2 ^ n
      → f x ≡ g x
  below_power zero e zero lt = additive_zero f hf ∙ sym (additive_zero g hg)
  below_power zero e (suc x) lt = absurd (omega arith)
  below_power (suc n) e x lt =
      let high : x / 2 ^ n < 2 = (div-lt_iff_lt-mul (pow_pos n)).1 (rw mul_comm (rw pow-suc at lt)) in
      ap f (sym (high_⊕-low n x)) ∙ hf.sum (x / 2 ^ n * 2 ^ n) (x % 2 ^ n)
      ∙ ap₂ ◌⊕◌ (at-digit n (x / 2 ^ n) high (e n (omega arith)))
      (below_power n (λ i h. e i (omega arith)) (x % 2 ^ n) (mod-lt x (pow_pos n)))
      ∙ sym (hg.sum (x / 2 ^ n * 2 ^ n) (x % 2 ^ n)) ∙ ap g (high_⊕-low n x)

  -- the test that they agree at the power i of two
  abbrev pub alike : ℕ → Bool
  alike i = eqb (f (2 ^ i)) (g (2 ^ i))

  pub same_on_bytes : T (every (λ k x. alike k) 0 (replicate 8 0)) → (x : ℕ) → x < 256 → f x ≡ g x
  same_on_bytes t = below_power 8 (λ i h. eqb→eq (f (2 ^ i)) (g (2 ^ i)) (all-below 8 alike t i h))
