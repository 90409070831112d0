-- Words and their bytes: the bytes of a sum, of a word made of bytes, and of a word that is turned.
use mathlib.Core.Path.{◌≡◌, sym, ap, ap₂, ◌∙◌}
use mathlib.Core.List.{List, [], ◌∷◌}
use Prim.Native.Nat.{ℕ, zero, suc, ◌+◌, ◌-◌, ◌*◌, ◌/◌, ◌%◌, ◌^◌, ◌<◌}
use native.Mathlib.Nat.{div-div-eq-div-mul}
use native.Mathlib.Omega.{arith}
use Rattle.field.specs.Field.{◌⊕◌}
use Rattle.field.specs.Mixing.{word}
use Rattle.aes_standard.specs.State.{at, state, byte_of}
use Rattle.aes_standard.specs.Schedule.{key_word}
use Rattle.columns.specs.declared.Columns.{Columns}
use Rattle.columns.specs.Words.{Bytes, Loaded, turned, four_words, block_of}
use Rattle.std.specs.Int.{rotate_right, w32}
use Rattle.std.specs.Int.Bits.{bit_or, or_self}
use Rattle.std.proofs.lemmas.Nat.{or_comm, or_shifted}
use Rattle.aes_standard.proofs.WordBytes.{byte_of-lt}
use Rattle.aes_standard.proofs.WordBytes.{byte_of-⊕}

-- a word below 2^32 is the word of its bytes
pub bytes_word : (w : ℕ) → w < 2 ^ 32 → word (byte_of w 0) (byte_of w 1) (byte_of w 2) (byte_of w 3) ≡ w
unfolding byte_of word
bytes_word w h =
    let e1 : w / 16777216 % 256 * 256 + w / 65536 % 256 ≡ w / 65536 = omega (arith, div-div-eq-div-mul w 65536 256) in
    let e2 : w / 65536 * 256 + w / 256 % 256 ≡ w / 256 = omega (arith, div-div-eq-div-mul w 256 256) in
    let e3 : w / 256 * 256 + w % 256 ≡ w = omega arith in
    omega arith

-- a word from its bytes
pub word_is : (w p q r s : ℕ) → w < 2 ^ 32 → Bytes w p q r s → w ≡ word p q r s
word_is w p q r s h b = sym (bytes_word w h) ∙ (λ i. word (b.byte0 i) (b.byte1 i) (b.byte2 i) (b.byte3 i))

-- a word whose lower part goes in front, and the rest behind it
in-front : (high low j : ℕ) → high < 2 ^ j → bit_or high (low * 2 ^ j) ≡ low * 2 ^ j + high
in-front high low j h = or_comm high (low * 2 ^ j) ∙ or_shifted low j high h

-- a rotation by whole bytes, as std takes it
pub turned_is : (x n : ℕ) → n < 4 → x < 2 ^ 32 → rotate_right w32 x (8 * n) ≡ turned x n
unfolding byte_of word turned
turned_is x zero lt h =
    let same : x * 1 % 4294967296 ≡ x = omega arith in
    let whole : x / 1 ≡ x = omega arith in
    ap₂ bit_or whole same ∙ or_self x ∙ omega (arith, bytes_word x h)
turned_is x (suc zero) lt h =
    let low : x * 16777216 % 4294967296 ≡ x % 256 * 16777216 = omega arith in
    ap (bit_or (x / 256)) low ∙ in-front (x / 256) (x % 256) 24 (omega arith) ∙ omega (arith, bytes_word x h)
turned_is x (suc (suc zero)) lt h =
    let low : x * 65536 % 4294967296 ≡ x % 65536 * 65536 = omega arith in
    ap (bit_or (x / 65536)) low ∙ in-front (x / 65536) (x % 65536) 16 (omega arith) ∙ omega (arith, bytes_word x h)
turned_is x (suc (suc (suc zero))) lt h =
    let low : x * 256 % 4294967296 ≡ x % 16777216 * 256 = omega arith in
    ap (bit_or (x / 16777216)) low ∙ in-front (x / 16777216) (x % 16777216) 8 (omega arith)
    ∙ omega (arith, bytes_word x h)
turned_is x (suc (suc (suc (suc n)))) lt h = absurd (omega arith)

pub word_bytes : (a b c d : ℕ) → a < 256 → b < 256 → c < 256 → d < 256 → Bytes (word a b c d) a b c d
unfolding byte_of word
word_bytes a b c d ha hb hc hd = omega arith

pub turned-bytes : (w n : ℕ)
    → Bytes (turned w n) (byte_of w ((4 - n) % 4)) (byte_of w ((5 - n) % 4)) (byte_of w ((6 - n) % 4))
    (byte_of w ((7 - n) % 4))
unfolding turned
turned-bytes w n =
    word_bytes (byte_of w ((4 - n) % 4)) (byte_of w ((5 - n) % 4)) (byte_of w ((6 - n) % 4)) (byte_of w ((7 - n) % 4))
    (byte_of-lt w _) (byte_of-lt w _) (byte_of-lt w _) (byte_of-lt w _)

-- the bytes of a sum, from those of its parts
pub bytes-⊕ : {w a b c d w' a' b' c' d' : ℕ} → Bytes w a b c d → Bytes w' a' b' c' d'
    → Bytes (w ⊕ w') (a ⊕ a') (b ⊕ b') (c ⊕ c') (d ⊕ d')
bytes-⊕ {w} {a} {b} {c} {d} {w'} x y =
    record {
      byte0 = byte_of-⊕ w w' 0 ∙ ap₂ ◌⊕◌ x.byte0 y.byte0;
      byte1 = byte_of-⊕ w w' 1 ∙ ap₂ ◌⊕◌ x.byte1 y.byte1;
      byte2 = byte_of-⊕ w w' 2 ∙ ap₂ ◌⊕◌ x.byte2 y.byte2;
      byte3 = byte_of-⊕ w w' 3 ∙ ap₂ ◌⊕◌ x.byte3 y.byte3;
    }

-- a word's bytes, taken from a word that equals it
pub bytes_of : {w v : ℕ} → w ≡ v → Bytes w (byte_of v 0) (byte_of v 1) (byte_of v 2) (byte_of v 3)
bytes_of e =
    record {
      byte0 = ap (λ (x : ℕ). byte_of x 0) e;
      byte1 = ap (λ (x : ℕ). byte_of x 1) e;
      byte2 = ap (λ (x : ℕ). byte_of x 2) e;
      byte3 = ap (λ (x : ℕ). byte_of x 3) e;
    }

-- the sixteen bytes of four words, from the bytes of each
pub four_bytes : {w a b c d w' a' b' c' d' v e f g h v' e' f' g' h' : ℕ}
    → Bytes w a b c d → Bytes w' a' b' c' d' → Bytes v e f g h → Bytes v' e' f' g' h'
    → four_words w w' v v' ≡ a ∷ b ∷ c ∷ d ∷ a' ∷ b' ∷ c' ∷ d' ∷ e ∷ f ∷ g ∷ h ∷ e' ∷ f'
    ∷ g' ∷ h' ∷ []
four_bytes p q r s i =
    p.byte0 i ∷ p.byte1 i ∷ p.byte2 i ∷ p.byte3 i ∷ q.byte0 i ∷ q.byte1 i ∷ q.byte2 i ∷ q.byte3 i
    ∷ r.byte0 i ∷ r.byte1 i ∷ r.byte2 i ∷ r.byte3 i ∷ s.byte0 i ∷ s.byte1 i ∷ s.byte2 i
    ∷ s.byte3 i ∷ []

-- the columns of a block are its words
pub loaded : (b : List ℕ) (x : Columns) → x.a < 2 ^ 32 → x.b < 2 ^ 32 → x.c < 2 ^ 32 → x.d < 2 ^ 32
    → block_of x ≡ state (at b) → Loaded b x
unfolding key_word
loaded b x ha hb hc hd e =
    let byte : (i : ℕ) → at (block_of x) i ≡ at (state (at b)) i = λ i. ap (λ (s : List ℕ). at s i) e in
    record {
      block = e;
      first = word_is x.a _ _ _ _ ha (record { byte0 = byte 0; byte1 = byte 1; byte2 = byte 2; byte3 = byte 3 });
      second = word_is x.b _ _ _ _ hb (record { byte0 = byte 4; byte1 = byte 5; byte2 = byte 6; byte3 = byte 7 });
      third = word_is x.c _ _ _ _ hc (record { byte0 = byte 8; byte1 = byte 9; byte2 = byte 10; byte3 = byte 11 });
      fourth = word_is x.d _ _ _ _ hd (record { byte0 = byte 12; byte1 = byte 13; byte2 = byte 14; byte3 = byte 15 });
    }
