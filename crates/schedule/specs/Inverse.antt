-- The equivalent inverse cipher (FIPS 197, section 5.3.5) as a way through the cipher's own rounds: its round keys
-- stand in the order of their use, and in each state and each round key the second and the fourth column have changed
-- places, so that ShiftRows moves its rows to the right.
use Rattle.std.specs.Prelude.{List, ◌≡◌, ℕ, ◌+◌, ◌-◌, ◌*◌, ◌%◌, ◌<◌, ◌≤◌}
use Rattle.columns.specs.declared.Columns.{Columns}
use Rattle.aes_standard.specs.State.{at, inv_mix_columns}
use Rattle.columns.specs.Words.{Bytes, four_words}

-- The word v is InvMixColumns of the word w.
abbrev pub Unmixed : ℕ → ℕ → Type 0
Unmixed w v =
    let column = inv_mix_columns (four_words w 0 0 0) in
    Bytes v (at column 0) (at column 1) (at column 2) (at column 3)

-- The word v is what the inverse cipher takes for the word w of round key r: InvMixColumns of it in rounds 1 to 9, and
-- itself in rounds 0 and 10.
pub record Taken (r w v : ℕ) : Type 0 where
  pub first : r ≡ 0 → v ≡ w
  pub inner : 1 ≤ r → r ≤ 9 → Unmixed w v
  pub last : r ≡ 10 → v ≡ w

-- The columns y are what the inverse cipher takes for round key r of the schedule w.
pub record InverseKey (w : List ℕ) (r : ℕ) (y : Columns) : Type 0 where
  pub first : Taken r (at w (r * 4 + 0)) y.a
  pub second : Taken r (at w (r * 4 + 3)) y.b
  pub third : Taken r (at w (r * 4 + 2)) y.c
  pub fourth : Taken r (at w (r * 4 + 1)) y.d

-- The words v are the inverse cipher's first n round keys: the schedule's, the last one first.
pub record InverseKeys (n : ℕ) (w v : List ℕ) : Type 0 where
  pub key : (r j : ℕ) → r < n → j < 4 → Taken (10 - r) (at w ((10 - r) * 4 + (4 - j) % 4)) (at v (r * 4 + j))

-- Four columns alike.
abbrev pub alike : ℕ → Columns
alike k = record { a = k; b = k; c = k; d = k }
