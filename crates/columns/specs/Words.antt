-- How the code holds a state: four words, one for each column, and a table of shares for the mixing of columns.
use Rattle.std.specs.Prelude.{◌≡◌, List, [], ◌∷◌, ℕ, ◌+◌, ◌-◌, ◌*◌, ◌%◌, set}
use Rattle.field.specs.Field.{◌⊕◌}
use Rattle.field.specs.Mixing.{word}
use Rattle.columns.specs.declared.Columns.{Columns}
use Rattle.aes_standard.specs.State.{at, state, byte_of}
use Rattle.aes_standard.specs.Schedule.{sub_word, rot_word, key_word}

-- The four bytes of a word w.
pub record Bytes (w a b c d : ℕ) : Type 0 where
  pub byte0 : byte_of w 0 ≡ a
  pub byte1 : byte_of w 1 ≡ b
  pub byte2 : byte_of w 2 ≡ c
  pub byte3 : byte_of w 3 ≡ d

-- A word r and its four bytes.
pub record Word (a b c d r : ℕ) : Type 0 where
  pub is : r ≡ word a b c d
  pub byte0 : byte_of r 0 ≡ a
  pub byte1 : byte_of r 1 ≡ b
  pub byte2 : byte_of r 2 ≡ c
  pub byte3 : byte_of r 3 ≡ d

-- The word r of the four bytes that stand in a list from place k on.
abbrev pub WordAt : List ℕ → ℕ → ℕ → Type 0
WordAt l k r = Word (at l k) (at l (k + 1)) (at l (k + 2)) (at l (k + 3)) r

-- A word with its last n bytes in front of the others.
unfoldable pub turned : ℕ → ℕ → ℕ
turned w n = word (byte_of w ((4 - n) % 4)) (byte_of w ((5 - n) % 4)) (byte_of w ((6 - n) % 4)) (byte_of w ((7 - n) % 4))

-- The sixteen bytes of four words.
abbrev pub four_words : ℕ → ℕ → ℕ → ℕ → List ℕ
four_words a b c d =
    byte_of a 0 ∷ byte_of a 1 ∷ byte_of a 2 ∷ byte_of a 3 ∷ byte_of b 0 ∷ byte_of b 1 ∷ byte_of b 2 ∷ byte_of b 3
    ∷ byte_of c 0 ∷ byte_of c 1 ∷ byte_of c 2 ∷ byte_of c 3 ∷ byte_of d 0 ∷ byte_of d 1 ∷ byte_of d 2
    ∷ byte_of d 3 ∷ []

-- The block that four columns hold.
abbrev pub block_of : Columns → List ℕ
block_of x = four_words x.a x.b x.c x.d

-- The columns x of a block of bytes b.
pub record Loaded (b : List ℕ) (x : Columns) : Type 0 where
  pub block : block_of x ≡ state (at b)
  pub first : x.a ≡ key_word b 0
  pub second : x.b ≡ key_word b 1
  pub third : x.c ≡ key_word b 2
  pub fourth : x.d ≡ key_word b 3

-- A list with four words laid down from place k on.
abbrev pub four_set : List ℕ → ℕ → ℕ → ℕ → ℕ → ℕ → List ℕ
four_set w k a b c d = set (set (set (set w k a) (k + 1) b) (k + 2) c) (k + 3) d

-- Round key r of the words w, in columns.
pub record RoundKey (w : List ℕ) (r : ℕ) (x : Columns) : Type 0 where
  pub first : x.a ≡ at w (r * 4 + 0)
  pub second : x.b ≡ at w (r * 4 + 1)
  pub third : x.c ≡ at w (r * 4 + 2)
  pub fourth : x.d ≡ at w (r * 4 + 3)

-- The shares of four bytes in one column, summed: the first byte of a, the second of b, the third of c and the fourth
-- of d, through a table of the third row's shares.
unfoldable pub shared_word : List ℕ → ℕ → ℕ → ℕ → ℕ → ℕ
shared_word t a b c d =
    turned (at t (byte_of a 0)) 2 ⊕ turned (at t (byte_of b 1)) 3 ⊕ at t (byte_of c 2) ⊕ turned (at t (byte_of d 3)) 1

-- What g takes of a table's entries at the first byte of a, the second of b, the third of c and the fourth of d, in a
-- word.
unfoldable pub picked_word : (ℕ → ℕ) → List ℕ → ℕ → ℕ → ℕ → ℕ → ℕ
picked_word g t a b c d = word (g (at t (byte_of a 0))) (g (at t (byte_of b 1))) (g (at t (byte_of c 2)))
    (g (at t (byte_of d 3)))

-- The entries themselves.
abbrev pub substituted_word : List ℕ → ℕ → ℕ → ℕ → ℕ → ℕ
substituted_word = picked_word (λ x. x)

-- The last byte of each entry.
abbrev pub lowest_word : List ℕ → ℕ → ℕ → ℕ → ℕ → ℕ
lowest_word = picked_word (λ x. x % 256)

-- The four words after x in a key schedule, with a round constant k: FIPS 197's loop, four turns of it.
pub record NextKey (x : Columns) (k : ℕ) (y : Columns) : Type 0 where
  pub first : y.a ≡ x.a ⊕ (sub_word (rot_word x.d) ⊕ k)
  pub second : y.b ≡ x.b ⊕ y.a
  pub third : y.c ≡ x.c ⊕ y.b
  pub fourth : y.d ≡ x.d ⊕ y.c

-- Columns of which the second and the fourth have changed places.
abbrev pub changed : Columns → Columns
changed x = record { a = x.a; b = x.d; c = x.c; d = x.b }
