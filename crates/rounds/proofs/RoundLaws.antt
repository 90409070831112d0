-- What the code's words are after a round, byte by byte: each law once for both ways through the cipher.
use mathlib.Core.Path.{◌≡◌, sym, ap, ◌∙◌}
use mathlib.Core.List.{List}
use Prim.Native.Nat.{ℕ, ◌%◌, ◌<◌}
use lib.ListN.{length, get_or}
use Rattle.std.specs.Int.{bytes_high_first}
use Rattle.std.proofs.lemmas.List.{get_or_default}
use native.Mathlib.Omega.{arith}
use Rattle.field.specs.Field.{◌⊕◌, ◌•◌}
use Rattle.field.specs.Mixing.{share}
use Rattle.field.proofs.Product.{•-lt}
use Rattle.field.proofs.MixingLaws.{row, ⊕_turn}
use Rattle.columns.specs.declared.Columns.{Columns}
use Rattle.aes_standard.specs.State.{at, state, byte_of, shift_rows, mix_with, add_round_key}
use Rattle.rounds.specs.Ways.{Way, Shares, Puts, Round, Last, moved_by, round_by, last_by}
use Rattle.columns.specs.Words.{Bytes, RoundKey, four_words, block_of, shared_word, picked_word, lowest_word}
use Rattle.columns.proofs.WordLaws.{word_bytes, turned-bytes, bytes-⊕, bytes_of, four_bytes}
use Rattle.aes_standard.proofs.WordBytes.{byte_of-lt}

-- an entry of a table at a byte of a word, whatever stands for one past the table's end
pub entry_at : {A : Type 0} (t : List A) (bytes : List ℕ) (j w : ℕ) (p e : A) → length t ≡ 256
    → bytes ≡ bytes_high_first 4 w → get_or (bytes_high_first 4 w) j 0 ≡ byte_of w j
    → get_or t (get_or bytes j 0) p ≡ get_or t (byte_of w j) e
entry_at t bytes j w p e size f g =
    ap (λ (k : ℕ). get_or t k p) (ap (λ (l : List ℕ). get_or l j 0) f ∙ g)
    ∙ get_or_default t (byte_of w j) p e (rw size (byte_of-lt w j))

pub picked_bytes : (g : ℕ → ℕ) (t : List ℕ) (a b c d : ℕ) → ((k : ℕ) → k < 256 → g (at t k) < 256)
    → Bytes (picked_word g t a b c d) (g (at t (byte_of a 0))) (g (at t (byte_of b 1))) (g (at t (byte_of c 2)))
    (g (at t (byte_of d 3)))
unfolding picked_word
picked_bytes g t a b c d lt =
    word_bytes (g (at t (byte_of a 0))) (g (at t (byte_of b 1))) (g (at t (byte_of c 2))) (g (at t (byte_of d 3)))
    (lt _ (byte_of-lt a 0)) (lt _ (byte_of-lt b 1)) (lt _ (byte_of-lt c 2)) (lt _ (byte_of-lt d 3))

-- four columns plus a round key
pub key-added : (w : List ℕ) (r : ℕ) (x k : Columns) → RoundKey w r k
    → state (λ i. at (block_of x) i ⊕ at (block_of k) i) ≡ add_round_key w r (block_of x)
unfolding add_round_key
key-added w r x k h = rw (h.first, h.second, h.third, h.fourth)

-- the bytes of a share
share-bytes : (m0 m1 m2 m3 y : ℕ) → y < 256 → Bytes (share m0 m1 m2 m3 y) (m2 • y) (m1 • y) (m0 • y)
    (m3 • y)
unfolding share
share-bytes m0 m1 m2 m3 y h =
    word_bytes (m2 • y) (m1 • y) (m0 • y) (m3 • y) (•-lt m2 y h) (•-lt m1 y h) (•-lt m0 y h)
    (•-lt m3 y h)

module _ (y : Way) (t : List ℕ) (shares : Shares y t) where
  -- the bytes of the entry at a byte
  pub looked_up : (n : ℕ) → n < 256
      → Bytes (at t n) (y.m2 • y.sub n) (y.m1 • y.sub n) (y.m0 • y.sub n) (y.m3 • y.sub n)
  looked_up n h = rw (shares.entry n h) (share-bytes y.m0 y.m1 y.m2 y.m3 (y.sub n) (shares.byte n h))

  -- a column of the code is the matrix times the column of substituted bytes
  pub shared_bytes : (a b c d : ℕ)
      → Bytes (shared_word t a b c d)
      (row y.m0 y.m1 y.m2 y.m3 (y.sub (byte_of a 0)) (y.sub (byte_of b 1)) (y.sub (byte_of c 2))
      (y.sub (byte_of d 3)))
      (row y.m0 y.m1 y.m2 y.m3 (y.sub (byte_of b 1)) (y.sub (byte_of c 2)) (y.sub (byte_of d 3))
      (y.sub (byte_of a 0)))
      (row y.m0 y.m1 y.m2 y.m3 (y.sub (byte_of c 2)) (y.sub (byte_of d 3)) (y.sub (byte_of a 0))
      (y.sub (byte_of b 1)))
      (row y.m0 y.m1 y.m2 y.m3 (y.sub (byte_of d 3)) (y.sub (byte_of a 0)) (y.sub (byte_of b 1))
      (y.sub (byte_of c 2)))
  unfolding shared_word row
  shared_bytes a b c d =
      let f = y.sub in
      let p = looked_up (byte_of a 0) (byte_of-lt a 0) in
      let q = looked_up (byte_of b 1) (byte_of-lt b 1) in
      let u = looked_up (byte_of c 2) (byte_of-lt c 2) in
      let v = looked_up (byte_of d 3) (byte_of-lt d 3) in
      let sum = bytes-⊕ (bytes-⊕
      (bytes-⊕ (turned-bytes (at t (byte_of a 0)) 2) (turned-bytes (at t (byte_of b 1)) 3)) u)
      (turned-bytes (at t (byte_of d 3)) 1) in
      record {
        byte0 = sum.byte0 ∙ (λ i. p.byte2 i ⊕ q.byte1 i ⊕ y.m2 • f (byte_of c 2) ⊕ v.byte3 i);
        byte1 =
            sum.byte1 ∙ (λ i. p.byte3 i ⊕ q.byte2 i ⊕ y.m1 • f (byte_of c 2) ⊕ v.byte0 i)
            ∙ sym (⊕_turn (y.m0 • f (byte_of b 1)) (y.m1 • f (byte_of c 2)) (y.m2 • f (byte_of d 3))
            (y.m3 • f (byte_of a 0)));
        byte2 =
            sum.byte2 ∙ (λ i. p.byte0 i ⊕ q.byte3 i ⊕ y.m0 • f (byte_of c 2) ⊕ v.byte1 i)
            ∙ ⊕_turn (y.m2 • f (byte_of a 0)) (y.m3 • f (byte_of b 1)) (y.m0 • f (byte_of c 2))
            (y.m1 • f (byte_of d 3))
            ∙ ⊕_turn (y.m1 • f (byte_of d 3)) (y.m2 • f (byte_of a 0)) (y.m3 • f (byte_of b 1))
            (y.m0 • f (byte_of c 2));
        byte3 =
            sum.byte3 ∙ (λ i. p.byte1 i ⊕ q.byte0 i ⊕ y.m3 • f (byte_of c 2) ⊕ v.byte2 i)
            ∙ ⊕_turn (y.m1 • f (byte_of a 0)) (y.m2 • f (byte_of b 1)) (y.m3 • f (byte_of c 2))
            (y.m0 • f (byte_of d 3));
      }

-- a full round of the code
pub full_round : (t w : List ℕ) (r : ℕ) (x k : Columns) → RoundKey w r k
    → Round t w r (block_of x) (four_words (shared_word t x.a x.b x.c x.d ⊕ k.a)
    (shared_word t x.b x.c x.d x.a ⊕ k.b)
    (shared_word t x.c x.d x.a x.b ⊕ k.c) (shared_word t x.d x.a x.b x.c ⊕ k.d))
unfolding round_by moved_by add_round_key mix_with shift_rows row
full_round t w r x k h =
    record {
      by = λ y shares.
          let column = shared_bytes y t shares in
          four_bytes (bytes-⊕ (column x.a x.b x.c x.d) (bytes_of h.first))
          (bytes-⊕ (column x.b x.c x.d x.a) (bytes_of h.second))
          (bytes-⊕ (column x.c x.d x.a x.b) (bytes_of h.third))
          (bytes-⊕ (column x.d x.a x.b x.c) (bytes_of h.fourth));
    }

last-lt : (n : ℕ) → n % 256 < 256
last-lt n = omega arith

-- the substituted bytes of a column, from a table whose last bytes are they
lowest-bytes : (y : Way) (u : List ℕ) → Puts y u → (a b c d : ℕ)
    → Bytes (lowest_word u a b c d) (y.sub (byte_of a 0)) (y.sub (byte_of b 1)) (y.sub (byte_of c 2))
    (y.sub (byte_of d 3))
lowest-bytes y u puts a b c d =
    let p = picked_bytes (λ x. x % 256) u a b c d (λ k lt. last-lt (at u k)) in
    record {
      byte0 = p.byte0 ∙ puts.entry (byte_of a 0) (byte_of-lt a 0);
      byte1 = p.byte1 ∙ puts.entry (byte_of b 1) (byte_of-lt b 1);
      byte2 = p.byte2 ∙ puts.entry (byte_of c 2) (byte_of-lt c 2);
      byte3 = p.byte3 ∙ puts.entry (byte_of d 3) (byte_of-lt d 3);
    }

-- the last round of the code
pub last-round : (u w : List ℕ) (x k : Columns) → RoundKey w 10 k
    → Last u w (block_of x) (four_words (lowest_word u x.a x.b x.c x.d ⊕ k.a)
    (lowest_word u x.b x.c x.d x.a ⊕ k.b)
    (lowest_word u x.c x.d x.a x.b ⊕ k.c) (lowest_word u x.d x.a x.b x.c ⊕ k.d))
unfolding last_by moved_by add_round_key shift_rows
last-round u w x k h =
    record {
      by = λ y puts.
          let column = lowest-bytes y u puts in
          four_bytes (bytes-⊕ (column x.a x.b x.c x.d) (bytes_of h.first))
          (bytes-⊕ (column x.b x.c x.d x.a) (bytes_of h.second))
          (bytes-⊕ (column x.c x.d x.a x.b) (bytes_of h.third))
          (bytes-⊕ (column x.d x.a x.b x.c) (bytes_of h.fourth));
    }
