-- The parts of a round: the entries of a table that one column is made of, and a state made column by column.
use Rattle.std.specs.Prelude.{List, [], ◌∷◌, ℕ, slice_index_or}
use Rattle.columns.specs.declared.Columns.{Columns}
use Rattle.aes_standard.specs.State.{byte_of}

-- The entries at the first byte of a, the second of b, the third of c and the fourth of d; e stands for one past the
-- table's end.
abbrev pub entries : {A : Type 0} → A → List A → ℕ → ℕ → ℕ → ℕ → List A
entries e t a b c d =
    slice_index_or t (byte_of a 0) e ∷ slice_index_or t (byte_of b 1) e ∷ slice_index_or t (byte_of c 2) e
    ∷ slice_index_or t (byte_of d 3) e ∷ []

-- The columns of a state from the second on, and then the first.
abbrev pub turned_left : Columns → Columns
turned_left x = record { a = x.b; b = x.c; c = x.d; d = x.a }

-- Each column of the state z is one that P allows: for the columns of x from that one on, counted round, and for the
-- word of k in its place.
pub record Each (P : Columns → ℕ → ℕ → Type 0) (x k z : Columns) : Type 0 where
  pub first : P x k.a z.a
  pub second : P (turned_left x) k.b z.b
  pub third : P (turned_left (turned_left x)) k.c z.c
  pub fourth : P (turned_left (turned_left (turned_left x))) k.d z.d
