-- The cipher and the equivalent inverse cipher (FIPS 197, sections 5.1 and 5.3.5) as two ways through the same rounds,
-- and the tables that the code takes them by.
use Rattle.std.specs.Prelude.{◌≡◌, List, ℕ, zero, suc, ◌+◌, ◌-◌, ◌*◌, ◌/◌, ◌%◌, ◌<◌}
use Rattle.field.specs.Field.{sub_byte, inv_sub_byte}
use Rattle.field.specs.Mixing.{share}
use Rattle.aes_standard.specs.State.{at, state, shift_rows, mix_with, add_round_key}

-- What sets a way apart: the first row of the matrix that mixes its columns, and what it puts for a byte.
pub record Way : Type 0 where
  pub m0 : ℕ
  pub m1 : ℕ
  pub m2 : ℕ
  pub m3 : ℕ
  pub sub : ℕ → ℕ

-- The way of the cipher.
abbrev pub there : Way
there = record { m0 = 2; m1 = 3; m2 = 1; m3 = 1; sub = sub_byte }

-- The way of the equivalent inverse cipher.
abbrev pub back : Way
back = record { m0 = 14; m1 = 11; m2 = 13; m3 = 9; sub = inv_sub_byte }

-- Each byte substituted, and the rows shifted.
unfoldable pub moved_by : Way → List ℕ → List ℕ
moved_by y s = shift_rows (state (λ i. y.sub (at s i)))

-- A full round, with round key r.
unfoldable pub round_by : Way → List ℕ → ℕ → List ℕ → List ℕ
round_by y w r s = add_round_key w r (mix_with y.m0 y.m1 y.m2 y.m3 (moved_by y s))

-- The first n full rounds, with round keys 1, 2, ..
unfoldable pub rounds_by : Way → List ℕ → ℕ → List ℕ → List ℕ
rounds_by y w zero s = s
rounds_by y w (suc n) s = round_by y w (suc n) (rounds_by y w n s)

-- The last round, which mixes no columns.
unfoldable pub last_by : Way → List ℕ → List ℕ → List ℕ
last_by y w s = add_round_key w 10 (moved_by y s)

-- Round key 0 is added, nine full rounds follow, and the last one.
unfoldable pub cipher_by : Way → List ℕ → List ℕ → List ℕ
cipher_by y w s = last_by y w (rounds_by y w 9 (add_round_key w 0 s))

-- The table t has each byte's share in its column, on the way y.
pub record Shares (y : Way) (t : List ℕ) : Type 0 where
  pub entry : (k : ℕ) → k < 256 → at t k ≡ share y.m0 y.m1 y.m2 y.m3 (y.sub k)
  pub byte : (k : ℕ) → k < 256 → y.sub k < 256

-- The last byte of each entry of the table t is the byte that the way y puts.
pub record Puts (y : Way) (t : List ℕ) : Type 0 where
  pub entry : (k : ℕ) → k < 256 → at t k % 256 ≡ y.sub k

-- What the code makes of s by its tables, whichever way they are for: z is s after a full round with round key r,
pub record Round (t w : List ℕ) (r : ℕ) (s z : List ℕ) : Type 0 where
  pub by : (y : Way) → Shares y t → z ≡ round_by y w r s

-- after n full rounds,
pub record Rounds (t w : List ℕ) (n : ℕ) (s z : List ℕ) : Type 0 where
  pub by : (y : Way) → Shares y t → z ≡ rounds_by y w n s

-- after the last round,
pub record Last (u w s z : List ℕ) : Type 0 where
  pub by : (y : Way) → Puts y u → z ≡ last_by y w s

-- and after all of them.
pub record Through (t u w s z : List ℕ) : Type 0 where
  pub by : (y : Way) → Shares y t → Puts y u → z ≡ cipher_by y w s

-- A state whose second and fourth column have changed places.
unfoldable pub flipped : List ℕ → List ℕ
flipped s = state (λ i. at s ((4 - i / 4) % 4 * 4 + i % 4))

-- The equivalent inverse cipher under the keys v, which stand in the order of their use with InvMixColumns of the inner
-- ones (5.3.5).
unfoldable pub eq_inv_cipher : List ℕ → List ℕ → List ℕ
eq_inv_cipher v s = flipped (cipher_by back v (flipped s))
