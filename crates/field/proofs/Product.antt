-- The laws of the product: it goes over sums, and keeps bytes bytes.
use mathlib.Core.Path.{◌≡◌, sym, ap, ap₂, ◌∙◌}
use Prim.Native.Nat.{ℕ, zero, suc, ◌*◌, ◌/◌, ◌%◌, ◌^◌, ◌<◌}
use native.Mathlib.Nat.{zero-mul, one-mul}
use native.Mathlib.Omega.{arith}
use Rattle.field.specs.Field.{◌⊕◌, xtimes, product_by, ◌•◌}
use Rattle.field.proofs.Xor.{⊕_swap, ⊕_double, ⊕-mod, ⊕-div, ⊕-lt, ⊕_zero, ⊕_self, zero_⊕}

-- a multiple of a digit goes over the sum of two digits
sum_times : (k x y : ℕ) → x < 2 → y < 2 → (x ⊕ y) * k ≡ (x * k) ⊕ (y * k)
unfolding ◌⊕◌
sum_times k zero zero hx hy = zero-mul k ∙ sym (ap₂ ◌⊕◌ (zero-mul k) (zero-mul k))
sum_times k zero (suc zero) hx hy = one-mul k ∙ sym (ap₂ ◌⊕◌ (zero-mul k) (one-mul k))
sum_times k zero (suc (suc y)) hx hy = absurd (omega arith)
sum_times k (suc zero) zero hx hy = one-mul k ∙ sym (ap₂ ◌⊕◌ (one-mul k) (zero-mul k) ∙ ⊕_zero k)
sum_times k (suc zero) (suc zero) hx hy = zero-mul k ∙ sym (ap₂ ◌⊕◌ (one-mul k) (one-mul k) ∙ ⊕_self k)
sum_times k (suc zero) (suc (suc y)) hx hy = absurd (omega arith)
sum_times k (suc (suc x)) y hx hy = absurd (omega arith)

-- a digit's multiple goes over the sum
digit_times : (k x y : ℕ) → k < 2 → k * (x ⊕ y) ≡ (k * x) ⊕ (k * y)
digit_times zero x y h = zero-mul (x ⊕ y) ∙ sym (ap₂ ◌⊕◌ (zero-mul x) (zero-mul y) ∙ zero_⊕ 0)
digit_times (suc zero) x y h = one-mul (x ⊕ y) ∙ sym (ap₂ ◌⊕◌ (one-mul x) (one-mul y))
digit_times (suc (suc k)) x y h = absurd (omega arith)

pub xtimes-⊕ : (x y : ℕ) → xtimes (x ⊕ y) ≡ xtimes x ⊕ xtimes y
unfolding xtimes
xtimes-⊕ x y =
    ap₂ ◌⊕◌
    (ap (λ (z : ℕ). z % 2 * 0x1b) (⊕-div x y 7) ∙ ap (λ (z : ℕ). z * 0x1b) (⊕-mod (x / 128) (y / 128) 1)
    ∙ sum_times 0x1b (x / 128 % 2) (y / 128 % 2) (omega arith) (omega arith))
    (ap (λ (z : ℕ). z * 2) (⊕-mod x y 7) ∙ ⊕_double (x % 128) (y % 128))
    ∙ ⊕_swap (x / 128 % 2 * 0x1b) (y / 128 % 2 * 0x1b) (x % 128 * 2) (y % 128 * 2)

product_by-⊕ : (n a x y : ℕ) → product_by n a (x ⊕ y) ≡ product_by n a x ⊕ product_by n a y
unfolding product_by
product_by-⊕ zero a x y = sym (zero_⊕ 0)
product_by-⊕ (suc n) a x y =
    ap₂ ◌⊕◌ (digit_times (a % 2) x y (omega arith))
    (ap (product_by n (a / 2)) (xtimes-⊕ x y) ∙ product_by-⊕ n (a / 2) (xtimes x) (xtimes y))
    ∙ ⊕_swap (a % 2 * x) (a % 2 * y) (product_by n (a / 2) (xtimes x)) (product_by n (a / 2) (xtimes y))

-- the product goes over the sum
pub •-⊕ : (a x y : ℕ) → a • (x ⊕ y) ≡ a • x ⊕ a • y
unfolding ◌•◌
•-⊕ a x y = product_by-⊕ 8 a x y

digit_lt : (d x : ℕ) → d < 2 → x < 256 → d * x < 2 ^ 8
digit_lt zero x h hx = rw zero-mul (omega arith)
digit_lt (suc zero) x h hx = rw one-mul hx
digit_lt (suc (suc d)) x h hx = absurd (omega arith)

pub xtimes-lt : (x : ℕ) → xtimes x < 256
unfolding xtimes
xtimes-lt x = ⊕-lt 8 (x / 128 % 2 * 0x1b) (x % 128 * 2) (omega arith) (omega arith)

product_by-lt : (n a x : ℕ) → x < 256 → product_by n a x < 256
unfolding product_by
product_by-lt zero a x h = omega arith
product_by-lt (suc n) a x h =
    ⊕-lt 8 (a % 2 * x) (product_by n (a / 2) (xtimes x)) (digit_lt (a % 2) x (omega arith) h)
    (product_by-lt n (a / 2) (xtimes x) (xtimes-lt x))

-- a product with a byte is a byte
pub •-lt : (a x : ℕ) → x < 256 → a • x < 256
unfolding ◌•◌
•-lt a x h = product_by-lt 8 a x h
