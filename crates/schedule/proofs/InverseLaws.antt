-- The equivalent inverse cipher is the inverse cipher, since InvMixColumns goes over the sum with a round key and all
-- else goes over the change of columns.
use mathlib.Core.Path.{◌≡◌, refl, sym, ap, ◌∙◌}
use mathlib.Core.List.{List, [], ◌∷◌}
use mathlib.Core.Logic.{⊎_elim}
use Prim.Native.Nat.{ℕ, zero, suc, ◌+◌, ◌-◌, ◌*◌, ◌%◌, ◌≤◌, ◌<◌}
use native.Mathlib.Nat.{add-zero, eq-or-lt_of_le}
use lib.ListN.{length, set, length-set}
use lib.Seq.{get_or-set_same, get_or-set_other}
use native.Mathlib.Omega.{arith}
use Rattle.field.specs.Field.{◌⊕◌, sub_byte, inv_sub_byte}
use Rattle.field.specs.Table.{Table}
use Rattle.field.proofs.Xor.{⊕_zero}
use Rattle.field.proofs.MixingLaws.{row, row-⊕}
use Rattle.field.proofs.SBoxLaws.{sub-undone}
use Rattle.columns.specs.declared.Columns.{Columns}
use Rattle.aes_standard.specs.State.{at, byte_of, shift_rows, mix_with, add_round_key, inv_sub_bytes, inv_shift_rows}
use Rattle.aes_standard.specs.State.{inv_mix_columns}
use Rattle.aes_standard.specs.Cipher.{inv_round, inv_rounds, inv_cipher}
use Rattle.rounds.specs.Ways.{back, moved_by, round_by, rounds_by, last_by, cipher_by, Shares, flipped, eq_inv_cipher}
use Rattle.columns.specs.Words.{RoundKey, four_set, shared_word, substituted_word, changed}
use Rattle.schedule.specs.Inverse.{Unmixed, Taken, InverseKey, InverseKeys}
use Rattle.aes_standard.proofs.WordBytes.{byte_of-lt}
use Rattle.rounds.proofs.RoundLaws.{shared_bytes, picked_bytes}

-- an entry of the S-box at a byte of k, undone
inv_sub_byte-entry : (s : List ℕ) → Table 256 sub_byte s → (k r : ℕ) → inv_sub_byte (at s (byte_of k r)) ≡ byte_of
    k r
inv_sub_byte-entry s h k r = ap inv_sub_byte (h.entry (byte_of k r) (byte_of-lt k r))
    ∙ sub-undone.undone (byte_of k r) (byte_of-lt k r)

sbox_entry-lt : (s : List ℕ) → Table 256 sub_byte s → (k : ℕ) → k < 256 → at s k < 256
sbox_entry-lt s h k lt = rw (h.entry k lt) (sub-undone.byte k lt)

-- the code's word of an inverse round key
pub unmixed_key : (s t : List ℕ) (k x v : ℕ) → Table 256 sub_byte s → Shares back t
    → x ≡ substituted_word s k k k k ⊕ 0 → v ≡ shared_word t x x x x ⊕ 0 → Unmixed k v
unfolding inv_mix_columns mix_with row
unmixed_key s t k x v hs ht e f =
    let bs = picked_bytes (λ x. x) s k k k k (sbox_entry-lt s hs) in
    let bt = shared_bytes back t ht x x x x in
    let ex : x ≡ substituted_word s k k k k = e ∙ ⊕_zero (substituted_word s k k k k) in
    let ev : v ≡ shared_word t x x x x = f ∙ ⊕_zero (shared_word t x x x x) in
    let q0 : inv_sub_byte (byte_of x 0) ≡ byte_of k 0 = ap (λ (z : ℕ). inv_sub_byte (byte_of z 0)) ex
    ∙ ap inv_sub_byte bs.byte0 ∙ inv_sub_byte-entry s hs k 0 in
    let q1 : inv_sub_byte (byte_of x 1) ≡ byte_of k 1 = ap (λ (z : ℕ). inv_sub_byte (byte_of z 1)) ex
    ∙ ap inv_sub_byte bs.byte1 ∙ inv_sub_byte-entry s hs k 1 in
    let q2 : inv_sub_byte (byte_of x 2) ≡ byte_of k 2 = ap (λ (z : ℕ). inv_sub_byte (byte_of z 2)) ex
    ∙ ap inv_sub_byte bs.byte2 ∙ inv_sub_byte-entry s hs k 2 in
    let q3 : inv_sub_byte (byte_of x 3) ≡ byte_of k 3 = ap (λ (z : ℕ). inv_sub_byte (byte_of z 3)) ex
    ∙ ap inv_sub_byte bs.byte3 ∙ inv_sub_byte-entry s hs k 3 in
    record {
      byte0 = ap (λ (z : ℕ). byte_of z 0) ev ∙ bt.byte0 ∙ (λ i. row 14 11 13 9 (q0 i) (q1 i) (q2 i) (q3 i));
      byte1 = ap (λ (z : ℕ). byte_of z 1) ev ∙ bt.byte1 ∙ (λ i. row 14 11 13 9 (q1 i) (q2 i) (q3 i) (q0 i));
      byte2 = ap (λ (z : ℕ). byte_of z 2) ev ∙ bt.byte2 ∙ (λ i. row 14 11 13 9 (q2 i) (q3 i) (q0 i) (q1 i));
      byte3 = ap (λ (z : ℕ). byte_of z 3) ev ∙ bt.byte3 ∙ (λ i. row 14 11 13 9 (q3 i) (q0 i) (q1 i) (q2 i));
    }

-- a round key as the inverse cipher takes it: the schedule's own in rounds 0 and 10,
pub key-kept : (w : List ℕ) (r : ℕ) (k : Columns) → (1 ≤ r → r ≤ 9 → ⊥) → RoundKey w r k
    → InverseKey w r (changed k)
key-kept w r k out h =
    record {
      first = kept h.first;
      second = kept h.fourth;
      third = kept h.third;
      fourth = kept h.second;
    }
  where
    kept : {x v : ℕ} → v ≡ x → Taken r x v
    kept e = record { first = λ z. e; inner = λ p q. absurd (out p q); last = λ z. e }

-- and InvMixColumns of it in the others
pub key_unmixed : (w : List ℕ) (r : ℕ) (k y : Columns) → (r ≡ 0 → ⊥) → (r ≡ 10 → ⊥)
    → RoundKey w r k
    → Unmixed k.a y.a → Unmixed k.d y.b → Unmixed k.c y.c → Unmixed k.b y.d
    → InverseKey w r y
key_unmixed w r k y start end h a b c d =
    record {
      first = taken h.first a;
      second = taken h.fourth b;
      third = taken h.third c;
      fourth = taken h.second d;
    }
  where
    taken : {x x' v : ℕ} → x' ≡ x → Unmixed x' v → Taken r x v
    taken e u = record { first = λ z. absurd (start z); inner = λ p q. rw e at u; last = λ z. absurd (end z) }

-- no key of the inverse cipher yet
pub keys_none : (w v : List ℕ) → InverseKeys 0 w v
keys_none w v = record { key = λ r j lt h. absurd (omega arith) }

-- what stands in a list after four words were laid down from place k on
at-four_set : (v : List ℕ) (k a b c d : ℕ) → k + 4 ≤ length v → (P : ℕ → ℕ → Type 0) → P 0 a
    → P 1 b → P 2 c → P 3 d
    → (j : ℕ) → j < 4 → P j (at (four_set v k a b c d) (k + j))
at-four_set v k a b c d fits P p q r s zero lt =
    rw (
      add-zero k,
      get_or-set_other (set (set (set v k a) (k + 1) b) (k + 2) c) (k + 3) k d 0 (omega arith),
      get_or-set_other (set (set v k a) (k + 1) b) (k + 2) k c 0 (omega arith),
      get_or-set_other (set v k a) (k + 1) k b 0 (omega arith),
      get_or-set_same v k a 0 (omega arith),
    ) p
at-four_set v k a b c d fits P p q r s (suc zero) lt =
    rw (
      get_or-set_other (set (set (set v k a) (k + 1) b) (k + 2) c) (k + 3) (k + 1) d 0 (omega arith),
      get_or-set_other (set (set v k a) (k + 1) b) (k + 2) (k + 1) c 0 (omega arith),
      get_or-set_same (set v k a) (k + 1) b 0 (simp length-set (omega arith)),
    ) q
at-four_set v k a b c d fits P p q r s (suc (suc zero)) lt =
    rw (
      get_or-set_other (set (set (set v k a) (k + 1) b) (k + 2) c) (k + 3) (k + 2) d 0 (omega arith),
      get_or-set_same (set (set v k a) (k + 1) b) (k + 2) c 0 (simp length-set (omega arith)),
    ) r
at-four_set v k a b c d fits P p q r s (suc (suc (suc zero))) lt =
    rw (get_or-set_same (set (set (set v k a) (k + 1) b) (k + 2) c) (k + 3) d 0 (simp length-set (omega arith))) s
at-four_set v k a b c d fits P p q r s (suc (suc (suc (suc j)))) lt = absurd (omega arith)

at-four_set_other : (v : List ℕ) (k a b c d i : ℕ) → i < k → at (four_set v k a b c d) i ≡ at v i
at-four_set_other v k a b c d i lt =
    get_or-set_other (set (set (set v k a) (k + 1) b) (k + 2) c) (k + 3) i d 0 (omega arith)
    ∙ get_or-set_other (set (set v k a) (k + 1) b) (k + 2) i c 0 (omega arith)
    ∙ get_or-set_other (set v k a) (k + 1) i b 0 (omega arith) ∙ get_or-set_other v k i a 0 (omega arith)

-- one more key of the inverse cipher
pub keys_more : (w v v' : List ℕ) (n : ℕ) (y : Columns) → length v ≡ 44 → n < 11 → InverseKeys n w v
    → InverseKey w (10 - n) y
    → v' ≡ four_set v (n * 4) y.a y.b y.c y.d → InverseKeys (n + 1) w v'
keys_more w v v' n y size lt h k e =
    rw e (record {
      key = λ r j below place.
          ⊎_elim (λ (same : r ≡ n). rw same (new j place))
          (λ (l : r < n). rw (at-four_set_other v (n * 4) y.a y.b y.c y.d (r * 4 + j) (omega arith))
          (h.key r j l place)) (eq-or-lt_of_le (omega arith));
    })
  where
    new : (j : ℕ) → j < 4
        → Taken (10 - n) (at w ((10 - n) * 4 + (4 - j) % 4))
        (at (four_set v (n * 4) y.a y.b y.c y.d) (n * 4 + j))
    new =
        at-four_set v (n * 4) y.a y.b y.c y.d (omega arith)
        (λ j x. Taken (10 - n) (at w ((10 - n) * 4 + (4 - j) % 4)) x)
        k.first k.second k.third k.fourth

-- all keys of the inverse cipher
pub keys-all : (w v : List ℕ) (n : ℕ) → n ≡ 11 → InverseKeys n w v → InverseKeys 11 w v
keys-all w v n e h = rw e at h

-- a column with InvMixColumns, plus InvMixColumns of a word, is the column plus the word, with InvMixColumns
record Column (p q r s k v : ℕ) : Type 0 where
  byte0 : row 14 11 13 9 p q r s ⊕ byte_of v 0 ≡ row 14 11 13 9 (p ⊕ byte_of k 0) (q ⊕ byte_of k 1)
      (r ⊕ byte_of k 2)
      (s ⊕ byte_of k 3)
  byte1 : row 14 11 13 9 q r s p ⊕ byte_of v 1 ≡ row 14 11 13 9 (q ⊕ byte_of k 1) (r ⊕ byte_of k 2)
      (s ⊕ byte_of k 3)
      (p ⊕ byte_of k 0)
  byte2 : row 14 11 13 9 r s p q ⊕ byte_of v 2 ≡ row 14 11 13 9 (r ⊕ byte_of k 2) (s ⊕ byte_of k 3)
      (p ⊕ byte_of k 0)
      (q ⊕ byte_of k 1)
  byte3 : row 14 11 13 9 s p q r ⊕ byte_of v 3 ≡ row 14 11 13 9 (s ⊕ byte_of k 3) (p ⊕ byte_of k 0)
      (q ⊕ byte_of k 1)
      (r ⊕ byte_of k 2)

unmixed_column : (p q r s k v : ℕ) → Unmixed k v → Column p q r s k v
unfolding inv_mix_columns mix_with row
unmixed_column p q r s k v u =
    let k0 = byte_of k 0 in
    let k1 = byte_of k 1 in
    let k2 = byte_of k 2 in
    let k3 = byte_of k 3 in
    record {
      byte0 = ap (λ (z : ℕ). row 14 11 13 9 p q r s ⊕ z) u.byte0
          ∙ sym (row-⊕ 14 11 13 9 p q r s k0 k1 k2 k3);
      byte1 = ap (λ (z : ℕ). row 14 11 13 9 q r s p ⊕ z) u.byte1
          ∙ sym (row-⊕ 14 11 13 9 q r s p k1 k2 k3 k0);
      byte2 = ap (λ (z : ℕ). row 14 11 13 9 r s p q ⊕ z) u.byte2
          ∙ sym (row-⊕ 14 11 13 9 r s p q k2 k3 k0 k1);
      byte3 = ap (λ (z : ℕ). row 14 11 13 9 s p q r ⊕ z) u.byte3
          ∙ sym (row-⊕ 14 11 13 9 s p q r k3 k0 k1 k2);
    }

-- the same of a whole round key, on changed columns
add_round_key_unmixed : (w v : List ℕ) (r q : ℕ) (s : List ℕ)
    → ((j : ℕ) → j < 4 → Unmixed (at w (q * 4 + (4 - j) % 4)) (at v (r * 4 + j)))
    → add_round_key v r (flipped (inv_mix_columns s)) ≡ flipped (inv_mix_columns (add_round_key w q s))
unfolding add_round_key flipped inv_mix_columns mix_with row
add_round_key_unmixed w v r q s h =
    let a = unmixed_column (at s 0) (at s 1) (at s 2) (at s 3) (at w (q * 4 + 0)) (at v (r * 4 + 0))
    (h 0 (omega arith)) in
    let b = unmixed_column (at s 12) (at s 13) (at s 14) (at s 15) (at w (q * 4 + 3)) (at v (r * 4 + 1))
    (h 1 (omega arith)) in
    let c = unmixed_column (at s 8) (at s 9) (at s 10) (at s 11) (at w (q * 4 + 2)) (at v (r * 4 + 2))
    (h 2 (omega arith)) in
    let d = unmixed_column (at s 4) (at s 5) (at s 6) (at s 7) (at w (q * 4 + 1)) (at v (r * 4 + 3))
    (h 3 (omega arith)) in
    λ i. a.byte0 i ∷ a.byte1 i ∷ a.byte2 i ∷ a.byte3 i ∷ b.byte0 i ∷ b.byte1 i ∷ b.byte2 i
    ∷ b.byte3 i
    ∷ c.byte0 i ∷ c.byte1 i ∷ c.byte2 i ∷ c.byte3 i ∷ d.byte0 i ∷ d.byte1 i ∷ d.byte2 i
    ∷ d.byte3 i ∷ []

-- a round key whose words are the schedule's own, on changed columns
add_round_key-flipped : (w v : List ℕ) (r q : ℕ) (s : List ℕ)
    → ((j : ℕ) → j < 4 → at v (r * 4 + j) ≡ at w (q * 4 + (4 - j) % 4))
    → add_round_key v r (flipped s) ≡ flipped (add_round_key w q s)
unfolding add_round_key flipped
add_round_key-flipped w v r q s h = rw (h 0 (omega arith), h 1 (omega arith), h 2 (omega arith), h 3 (omega arith))

-- on changed columns, rows that move to the left move to the right
moved_by-back : (s : List ℕ) → moved_by back (flipped s) ≡ flipped (inv_sub_bytes (inv_shift_rows s))
unfolding moved_by shift_rows flipped inv_sub_bytes inv_shift_rows
moved_by-back s = refl

mix_with-back : (s : List ℕ) → mix_with 14 11 13 9 (flipped s) ≡ flipped (inv_mix_columns s)
unfolding mix_with flipped inv_mix_columns
mix_with-back s = refl

flipped-flipped : (w : List ℕ) (r : ℕ) (s : List ℕ) → flipped (flipped (add_round_key w r s)) ≡ add_round_key w r
    s
unfolding flipped add_round_key
flipped-flipped w r s = refl

module _ (w v : List ℕ) (keys : InverseKeys 11 w v) where
  round-back : (n : ℕ) (s : List ℕ) → n < 9 → round_by back v (suc n) (flipped s) ≡ flipped
      (inv_round w (9 - n) s)
  unfolding round_by inv_round
  round-back n s h =
      ap (λ (z : List ℕ). add_round_key v (suc n) (mix_with 14 11 13 9 z)) (moved_by-back s)
      ∙ ap (add_round_key v (suc n)) (mix_with-back (inv_sub_bytes (inv_shift_rows s)))
      ∙ add_round_key_unmixed w v (suc n) (9 - n) (inv_sub_bytes (inv_shift_rows s))
      (λ j lt. (taken j lt).inner (omega arith) (omega arith))
    where
      taken : (j : ℕ) → j < 4 → Taken (9 - n) (at w ((9 - n) * 4 + (4 - j) % 4)) (at v (suc n * 4 + j))
      taken j lt = let e : 10 - suc n ≡ 9 - n = omega arith in
          let k = keys.key (suc n) j (omega arith) lt in rw e at k

  rounds-back : (n : ℕ) (s : List ℕ) → n ≤ 9 → rounds_by back v n (flipped s) ≡ flipped (inv_rounds w n s)
  unfolding rounds_by inv_rounds
  rounds-back zero s h = refl
  rounds-back (suc n) s h = ap (round_by back v (suc n)) (rounds-back n s (omega arith))
      ∙ round-back n (inv_rounds w n s) (omega arith)

  -- the equivalent inverse cipher is the inverse cipher
  pub eq_inv_cipher-inv_cipher : (s : List ℕ) → eq_inv_cipher v s ≡ inv_cipher w s
  unfolding eq_inv_cipher cipher_by last_by inv_cipher
  eq_inv_cipher-inv_cipher s =
      let x = inv_rounds w 9 (add_round_key w 10 s) in
      let z = inv_sub_bytes (inv_shift_rows x) in
      ap (λ (l : List ℕ). flipped (add_round_key v 10 (moved_by back l)))
      (ap (rounds_by back v 9) (add_round_key-flipped w v 0 10 s (λ j h. (keys.key 0 j (omega arith) h).last refl))
      ∙ rounds-back 9 (add_round_key w 10 s) (omega arith))
      ∙ ap (λ (l : List ℕ). flipped (add_round_key v 10 l)) (moved_by-back x)
      ∙ ap flipped (add_round_key-flipped w v 10 0 z (λ j h. (keys.key 10 j (omega arith) h).first refl))
      ∙ flipped-flipped w 0 z
