-- The state of AES, sixteen bytes column by column, and the four transformations with their inverses (FIPS 197,
-- sections 3.4, 5.1 and 5.3).
use Rattle.std.specs.Prelude.{List, [], ◌∷◌, ℕ, ◌+◌, ◌-◌, ◌*◌, ◌/◌, ◌%◌, ◌^◌, ◌≡◌, length, get_or}
use Rattle.lists.specs.Bytes.{Bytes}
use Rattle.field.specs.Field.{◌⊕◌, ◌•◌, sub_byte, inv_sub_byte}

-- Byte i of a list of bytes.
abbrev pub at : List ℕ → ℕ → ℕ
at s i = get_or s i 0

-- The state whose byte i is f i; byte i stands in row i mod 4 of column i / 4 (3.4).
abbrev pub state : (ℕ → ℕ) → List ℕ
state f =
    f 0 ∷ f 1 ∷ f 2 ∷ f 3 ∷ f 4 ∷ f 5 ∷ f 6 ∷ f 7 ∷ f 8 ∷ f 9 ∷ f 10 ∷ f 11 ∷ f 12 ∷ f 13
    ∷ f 14 ∷ f 15 ∷ []

-- Byte r of a word of four bytes, the first one highest (3.5).
unfoldable pub byte_of : ℕ → ℕ → ℕ
byte_of w r = w / 2 ^ (8 * (3 - r)) % 256

-- The sum of two blocks, byte by byte.
unfoldable pub plus : List ℕ → List ℕ → List ℕ
plus a b = state (λ i. at a i ⊕ at b i)

-- A block of sixteen bytes (3.3).
pub record Block (b : List ℕ) : Type 0 where
  pub size : length b ≡ 16
  pub bytes : Bytes b

-- The place j rows below place i, in the same column and counted round.
abbrev pub below : ℕ → ℕ → ℕ
below i j = i / 4 * 4 + (i + j) % 4

-- The place j columns to the right of place i, in the same row and counted round.
abbrev pub right : ℕ → ℕ → ℕ
right i j = (i + j * 4) % 16

-- SubBytes: each byte through the S-box (5.1.1).
unfoldable pub sub_bytes : List ℕ → List ℕ
sub_bytes s = state (λ i. sub_byte (at s i))

-- ShiftRows: row r moves r places to the left (5.1.2).
unfoldable pub shift_rows : List ℕ → List ℕ
shift_rows s = state (λ i. at s (right i (i % 4)))

-- Each column times the matrix whose first row is m0 m1 m2 m3 and whose other rows are that row turned right (4.3).
unfoldable pub mix_with : ℕ → ℕ → ℕ → ℕ → List ℕ → List ℕ
mix_with m0 m1 m2 m3 s =
    state (λ i. m0 • at s i ⊕ m1 • at s (below i 1) ⊕ m2 • at s (below i 2) ⊕ m3 • at s (below i 3))

-- MixColumns (5.1.3).
unfoldable pub mix_columns : List ℕ → List ℕ
mix_columns s = mix_with 2 3 1 1 s

-- AddRoundKey: each column plus its word of round key r (5.1.4).
unfoldable pub add_round_key : List ℕ → ℕ → List ℕ → List ℕ
add_round_key w r s = state (λ i. at s i ⊕ byte_of (at w (r * 4 + i / 4)) (i % 4))

-- InvSubBytes: each byte through the inverse S-box (5.3.2).
unfoldable pub inv_sub_bytes : List ℕ → List ℕ
inv_sub_bytes s = state (λ i. inv_sub_byte (at s i))

-- InvShiftRows: row r moves r places to the right (5.3.1).
unfoldable pub inv_shift_rows : List ℕ → List ℕ
inv_shift_rows s = state (λ i. at s (right i (4 - i % 4)))

-- InvMixColumns (5.3.3).
unfoldable pub inv_mix_columns : List ℕ → List ℕ
inv_mix_columns s = mix_with 14 11 13 9 s
