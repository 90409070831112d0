-- Deciphering undoes enciphering: for every schedule and every block of bytes.
use mathlib.Core.Path.{◌≡◌, refl, ap, ap₂, ◌∙◌}
use mathlib.Core.List.{List}
use Prim.Native.Nat.{ℕ, zero, suc, ◌+◌, ◌-◌}
use native.Mathlib.Omega.{arith}
use lib.ListN.{length}
use Rattle.lists.specs.Bytes.{Bytes}
use Rattle.aes_standard.specs.State.{at, state, Block, sub_bytes, shift_rows, mix_with, mix_columns, add_round_key}
use Rattle.aes_standard.specs.State.{inv_sub_bytes, inv_shift_rows, inv_mix_columns}
use Rattle.aes_standard.specs.Cipher.{round, rounds, cipher, inv_round, inv_rounds, inv_cipher}
use Rattle.aes_standard.proofs.StateLaws.{block-state, add_round_key-block, add_round_key-again, sub_bytes-block}
use Rattle.aes_standard.proofs.StateLaws.{shift_rows-block, inv_sub_bytes-block, inv_shift_rows-block}
use Rattle.aes_standard.proofs.StateLaws.{mix_with-block}
use Rattle.aes_standard.proofs.StateLaws.{rows_bytes-undone, mix_columns-undone}

-- SubBytes, then ShiftRows
abbrev moved : List ℕ → List ℕ
moved s = shift_rows (sub_bytes s)

moved-block : (s : List ℕ) → Bytes s → Block (moved s)
moved-block s h = shift_rows-block (sub_bytes s) (sub_bytes-block s h).bytes

round-block : (w : List ℕ) (r : ℕ) (s : List ℕ) → Bytes s → Block (round w r s)
unfolding round mix_columns
round-block w r s h = add_round_key-block w r (mix_columns (moved s))
    (mix_with-block 2 3 1 1 (moved s) (moved-block s h).bytes).bytes

rounds-bytes : (w : List ℕ) (n : ℕ) (s : List ℕ) → Bytes s → Bytes (rounds w n s)
unfolding rounds
rounds-bytes w zero s h = h
rounds-bytes w (suc n) s h = (round-block w (suc n) (rounds w n s) (rounds-bytes w n s h)).bytes

-- the cipher of anything has sixteen elements
pub cipher-length : (w b : List ℕ) → length (cipher w b) ≡ 16
unfolding cipher add_round_key
cipher-length w b = refl

-- the cipher of a block is a block
pub cipher-block : (w b : List ℕ) → Bytes b → Block (cipher w b)
unfolding cipher
cipher-block w b h =
    add_round_key-block w 10 (moved (rounds w 9 (add_round_key w 0 b)))
    (moved-block (rounds w 9 (add_round_key w 0 b))
    (rounds-bytes w 9 (add_round_key w 0 b) (add_round_key-block w 0 b h).bytes)).bytes

-- adding a round key and InvMixColumns look at sixteen bytes and no further
add_round_key-state : (w : List ℕ) (r : ℕ) (y : List ℕ) → add_round_key w r (state (at y)) ≡ add_round_key w r y
unfolding add_round_key
add_round_key-state w r y = refl

inv_mix_columns-state : (y : List ℕ) → inv_mix_columns (state (at y)) ≡ inv_mix_columns y
unfolding inv_mix_columns mix_with
inv_mix_columns-state y = refl

first : (w s : List ℕ) → add_round_key w 0 (state (at (rounds w 0 s))) ≡ add_round_key w 0 s
unfolding rounds add_round_key
first w s = refl

module _ (w s : List ℕ) (bytes : Bytes s) where
  -- one round back
  round-undone : (n : ℕ) → inv_round w (suc n) (moved (rounds w (suc n) s)) ≡ moved (rounds w n s)
  unfolding inv_round round rounds
  round-undone n =
      let x = moved (rounds w n s) in
      let hx = moved-block (rounds w n s) (rounds-bytes w n s bytes) in
      ap (λ (z : List ℕ). inv_mix_columns (add_round_key w (suc n) z))
      (rows_bytes-undone (rounds w (suc n) s) (rounds-bytes w (suc n) s bytes))
      ∙ ap inv_mix_columns (add_round_key-state w (suc n) (rounds w (suc n) s)
      ∙ add_round_key-again w (suc n) (mix_columns x))
      ∙ inv_mix_columns-state (mix_columns x) ∙ mix_columns-undone x hx.bytes ∙ block-state x hx

  -- n rounds back
  rounds-undone : (n m : ℕ) → m + n ≡ 9 → inv_rounds w n (moved (rounds w 9 s)) ≡ moved (rounds w m s)
  unfolding inv_rounds
  rounds-undone zero m h = let e : 9 ≡ m = omega arith in ap (λ (k : ℕ). moved (rounds w k s)) e
  rounds-undone (suc n) m h =
      let e : 9 - n ≡ suc m = omega arith in
      ap₂ (λ (r : ℕ) (z : List ℕ). inv_round w r z) e (rounds-undone n (suc m) (omega arith)) ∙ round-undone m

-- deciphering undoes enciphering
pub inv_cipher-cipher : (w b : List ℕ) → Block b → inv_cipher w (cipher w b) ≡ b
unfolding inv_cipher cipher
inv_cipher-cipher w b h =
    let s = add_round_key w 0 b in
    let hs = (add_round_key-block w 0 b h.bytes).bytes in
    let last = moved (rounds w 9 s) in
    ap (λ (z : List ℕ). add_round_key w 0 (inv_sub_bytes (inv_shift_rows (inv_rounds w 9 z))))
    (add_round_key-again w 10 last ∙ block-state last (moved-block (rounds w 9 s) (rounds-bytes w 9 s hs)))
    ∙ ap (λ (z : List ℕ). add_round_key w 0 (inv_sub_bytes (inv_shift_rows z))) (rounds-undone w s hs 9 0 refl)
    ∙ ap (add_round_key w 0) (rows_bytes-undone (rounds w 0 s) (rounds-bytes w 0 s hs)) ∙ first w s
    ∙ add_round_key-again w 0 b ∙ block-state b h

inv_rounds-bytes : (w : List ℕ) (n : ℕ) (s : List ℕ) → Bytes s → Bytes (inv_rounds w n s)
unfolding inv_rounds inv_round inv_mix_columns
inv_rounds-bytes w zero s h = h
inv_rounds-bytes w (suc n) s h =
    let x = inv_shift_rows (inv_rounds w n s) in
    let hx = (inv_sub_bytes-block x (inv_shift_rows-block (inv_rounds w n s) (inv_rounds-bytes w n s h)).bytes).bytes in
    (mix_with-block 14 11 13 9 (add_round_key w (9 - n) (inv_sub_bytes x))
    (add_round_key-block w (9 - n) (inv_sub_bytes x) hx).bytes).bytes

-- the inverse cipher of a block is a block
pub inv_cipher-block : (w b : List ℕ) → Bytes b → Block (inv_cipher w b)
unfolding inv_cipher
inv_cipher-block w b h =
    let x = inv_rounds w 9 (add_round_key w 10 b) in
    let hx = inv_rounds-bytes w 9 (add_round_key w 10 b) (add_round_key-block w 10 b h).bytes in
    add_round_key-block w 0 (inv_sub_bytes (inv_shift_rows x))
    (inv_sub_bytes-block (inv_shift_rows x) (inv_shift_rows-block x hx).bytes).bytes

-- the ciphers look at sixteen bytes of a block and no further
pub cipher-state : (w s : List ℕ) → cipher w (state (at s)) ≡ cipher w s
unfolding cipher add_round_key
cipher-state w s = refl

pub inv_cipher-state : (w s : List ℕ) → inv_cipher w (state (at s)) ≡ inv_cipher w s
unfolding inv_cipher add_round_key
inv_cipher-state w s = refl
