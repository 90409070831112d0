-- The key schedule of AES-128: 44 words from a key of sixteen bytes (FIPS 197, section 5.2).
use Rattle.std.specs.Prelude.{Bool, true, false, List, [], ◌∷◌, ℕ, zero, suc, ◌+◌, ◌-◌, ◌*◌, ◌/◌, ◌%◌, eqb}
use Rattle.field.specs.Field.{◌⊕◌, xtimes, sub_byte}
use Rattle.field.specs.Mixing.{word}
use Rattle.aes_standard.specs.State.{at, byte_of}

-- SubWord: each byte of a word through the S-box.
unfoldable pub sub_word : ℕ → ℕ
sub_word w = word (sub_byte (byte_of w 0)) (sub_byte (byte_of w 1)) (sub_byte (byte_of w 2)) (sub_byte (byte_of w 3))

-- RotWord: the first byte of a word goes behind the other three.
unfoldable pub rot_word : ℕ → ℕ
rot_word w = word (byte_of w 1) (byte_of w 2) (byte_of w 3) (byte_of w 0)

-- The power n of x.
unfoldable pub xpower : ℕ → ℕ
xpower zero = 1
xpower (suc n) = xtimes (xpower n)

-- Rcon[i]: the power i - 1 of x, and three zero bytes.
unfoldable pub rcon : ℕ → ℕ
rcon i = word (xpower (i - 1)) 0 0 0

-- What word i takes from the word before it: at each fourth word that word turned, substituted and with its round
-- constant.
abbrev pub if_fourth : Bool → ℕ → ℕ → ℕ
if_fourth true i before = sub_word (rot_word before) ⊕ rcon (i / 4)
if_fourth false i before = before

-- Words i, i + 1, .. of the schedule, n of them, from the four words a b c d that stand before word i.
unfoldable pub words_from : ℕ → ℕ → ℕ → ℕ → ℕ → ℕ → List ℕ
words_from zero i a b c d = []
words_from (suc n) i a b c d =
    let e = a ⊕ if_fourth (eqb (i % 4) 0) i d in
    e ∷ words_from n (suc i) b c d e

-- The word in bytes 4 i to 4 i + 3 of a key.
unfoldable pub key_word : List ℕ → ℕ → ℕ
key_word key i = word (at key (4 * i)) (at key (4 * i + 1)) (at key (4 * i + 2)) (at key (4 * i + 3))

-- KeyExpansion: the key's own four words, then forty more.
unfoldable pub key_expansion : List ℕ → List ℕ
key_expansion key =
    let a = key_word key 0 in
    let b = key_word key 1 in
    let c = key_word key 2 in
    let d = key_word key 3 in
    a ∷ b ∷ c ∷ d ∷ words_from 40 4 a b c d
