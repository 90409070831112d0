-- GF(2^8) modulo x^8 + x^4 + x^3 + x + 1, and the substitution of a byte (FIPS 197, sections 4 and 5.1.1).
use Rattle.std.specs.Prelude.{ℕ, zero, suc, ◌+◌, ◌*◌, ◌/◌, ◌%◌, ◌^◌}
use Rattle.std.specs.Int.Bits.{bit_xor}

infixl 65 ◌⊕◌
infixl 70 ◌•◌
-- The sum of two elements: the exclusive or of their digits (4.1).
unfoldable pub ◌⊕◌ : ℕ → ℕ → ℕ
a ⊕ b = bit_xor a b

-- The product with x: a shift to the left, less the modulus where digit 7 was set (4.2).
unfoldable pub xtimes : ℕ → ℕ
xtimes b = (b / 128 % 2 * 0x1b) ⊕ (b % 128 * 2)

-- The product by the n lowest digits of a: the sum of b, x b, x² b, .. where a digit is set (4.2).
unfoldable pub product_by : ℕ → ℕ → ℕ → ℕ
product_by zero a b = 0
product_by (suc n) a b = (a % 2 * b) ⊕ product_by n (a / 2) (xtimes b)

-- The product of two elements (4.2).
unfoldable pub ◌•◌ : ℕ → ℕ → ℕ
a • b = product_by 8 a b

-- The inverse of an element, 0 for 0: its power 254, which is 2 + 4 + 8 + 16 + 32 + 64 + 128 (4.4).
unfoldable pub inverse : ℕ → ℕ
inverse b =
    let b2 = b • b in
    let b4 = b2 • b2 in
    let b8 = b4 • b4 in
    let b16 = b8 • b8 in
    let b32 = b16 • b16 in
    let b64 = b32 • b32 in
    let b128 = b64 • b64 in
    b2 • b4 • b8 • b16 • b32 • b64 • b128

-- Digit i of b, the digits being counted round modulo 8.
unfoldable pub digit : ℕ → ℕ → ℕ
digit b i = b / 2 ^ (i % 8) % 2

-- The byte whose digit i is f i.
unfoldable pub from_digits : (ℕ → ℕ) → ℕ
from_digits f = f 0 + 2 * f 1 + 4 * f 2 + 8 * f 3 + 16 * f 4 + 32 * f 5 + 64 * f 6 + 128 * f 7

-- The affine map of the S-box, with the constant 63 (5.1.1).
unfoldable pub affine : ℕ → ℕ
affine b =
    from_digits (λ i. digit b i ⊕ digit b (i + 4) ⊕ digit b (i + 5) ⊕ digit b (i + 6) ⊕ digit b (i + 7)
    ⊕ digit 0x63 i)

-- The inverse of the affine map, with the constant 5 (5.3.2).
unfoldable pub inv_affine : ℕ → ℕ
inv_affine b = from_digits (λ i. digit b (i + 2) ⊕ digit b (i + 5) ⊕ digit b (i + 7) ⊕ digit 0x05 i)

-- SubBytes of one byte: the inverse, then the affine map (5.1.1).
unfoldable pub sub_byte : ℕ → ℕ
sub_byte b = affine (inverse b)

-- InvSubBytes of one byte: the inverse of the affine map, then the inverse (5.3.2).
unfoldable pub inv_sub_byte : ℕ → ℕ
inv_sub_byte b = inverse (inv_affine b)
