-- CBC decryption undoes CBC encryption, for every schedule, initialization vector and list of bytes; lengths and bytes
-- are kept.
use mathlib.Core.Path.{◌≡◌, refl, ap, ap₂, ◌∙◌}
use mathlib.Core.List.{List, ◌++◌}
use Prim.Native.Nat.{ℕ, zero, suc, ◌+◌, ◌*◌, ◌/◌, ◌≤◌}
use native.Mathlib.Omega.{arith}
use lib.ListN.{length, take, drop, length-append, length-drop, take-append-drop}
use lib.Seq.{length-take-le, take_at, drop_at}
use Rattle.lists.specs.Bytes.{Bytes}
use Rattle.lists.proofs.ByteLaws.{bytes-append, bytes_take, bytes_drop}
use Rattle.field.proofs.Xor.{⊕_comm}
use Rattle.aes_standard.specs.State.{at, state, plus, Block}
use Rattle.aes_standard.specs.Cipher.{cipher, inv_cipher}
use Rattle.aes_standard.specs.Chain.{chained, unchained, absorbed, cbc_encrypt, cbc_decrypt, last_of_chain}
use Rattle.aes_standard.proofs.StateLaws.{plus-block, plus-again, block-state}
use Rattle.aes_standard.proofs.RoundTrip.{cipher-length, cipher-block, inv_cipher-block, inv_cipher-cipher}

plus_comm : (a b : List ℕ) → plus a b ≡ plus b a
unfolding plus
plus_comm a b k = state (λ i. ⊕_comm (at a i) (at b i) k)

-- the first block of a list that has one
first_block : (l : List ℕ) → 16 ≤ length l → Bytes l → Block (take 16 l)
first_block l h b = record { size = length-take-le 16 l h; bytes = bytes_take 16 l b }

-- the next block of a chain
abbrev next : List ℕ → List ℕ → List ℕ → List ℕ
next w before l = cipher w (plus before (take 16 l))

next-block : (w before l : List ℕ) → Bytes before → Bytes l → Block (next w before l)
next-block w before l hb hl = cipher-block w (plus before (take 16 l))
    (plus-block before (take 16 l) hb (bytes_take 16 l hl)).bytes

-- one block there and back
block-undone : (w before l : List ℕ) → 16 ≤ length l → Bytes before → Bytes l
    → plus (inv_cipher w (next w before l)) before ≡ take 16 l
block-undone w before l h hb hl =
    let p = take 16 l in
    ap (λ (z : List ℕ). plus z before)
    (inv_cipher-cipher w (plus before p) (plus-block before p hb (bytes_take 16 l hl)) ∙ plus_comm before p)
    ∙ plus-again p before ∙ block-state p (first_block l h hl)

unchained-chained : (w : List ℕ) (n : ℕ) (before l : List ℕ) → n * 16 ≤ length l → Bytes before → Bytes l
    → unchained (inv_cipher w) n before (chained w n before l) ≡ l
unfolding chained unchained
unchained-chained w zero before l h hb hl = refl
unchained-chained w (suc n) before l h hb hl =
    let c = next w before l in
    let hc = next-block w before l hb hl in
    let r = chained w n c (drop 16 l) in
    rw (take_at c r 16 hc.size, drop_at c r 16 hc.size)
    (ap₂ (λ (p q : List ℕ). p ++ q) (block-undone w before l (omega arith) hb hl)
    (unchained-chained w n c (drop 16 l) (omega (arith, length-drop 16 l)) hc.bytes (bytes_drop 16 l hl))
    ∙ take-append-drop 16 l)

chained-length : (w : List ℕ) (n : ℕ) (before l : List ℕ) → n * 16 ≤ length l
    → length (chained w n before l) ≡ length l
unfolding chained
chained-length w zero before l h = refl
chained-length w (suc n) before l h =
    let c = next w before l in
    length-append c (chained w n c (drop 16 l))
    ∙ ap₂ ◌+◌ (cipher-length w (plus before (take 16 l)))
    (chained-length w n c (drop 16 l) (omega (arith, length-drop 16 l)) ∙ length-drop 16 l)
    ∙ omega arith

chained-bytes : (w : List ℕ) (n : ℕ) (before l : List ℕ) → Bytes before → Bytes l
    → Bytes (chained w n before l)
unfolding chained
chained-bytes w zero before l hb hl = hl
chained-bytes w (suc n) before l hb hl =
    let c = next w before l in
    let hc = next-block w before l hb hl in
    bytes-append c (chained w n c (drop 16 l)) hc.bytes
    (chained-bytes w n c (drop 16 l) hc.bytes (bytes_drop 16 l hl))

unchained-length : (w : List ℕ) (n : ℕ) (before l : List ℕ) → n * 16 ≤ length l
    → length (unchained (inv_cipher w) n before l) ≡ length l
unfolding unchained plus
unchained-length w zero before l h = refl
unchained-length w (suc n) before l h =
    length-append (plus (inv_cipher w (take 16 l)) before) (unchained (inv_cipher w) n (take 16 l) (drop 16 l))
    ∙ ap (λ (k : ℕ). 16 + k) (unchained-length w n (take 16 l) (drop 16 l) (omega (arith, length-drop 16 l))
    ∙ length-drop 16 l)
    ∙ omega arith

unchained-bytes : (w : List ℕ) (n : ℕ) (before l : List ℕ) → Bytes before → Bytes l
    → Bytes (unchained (inv_cipher w) n before l)
unfolding unchained
unchained-bytes w zero before l hb hl = hl
unchained-bytes w (suc n) before l hb hl =
    bytes-append (plus (inv_cipher w (take 16 l)) before) (unchained (inv_cipher w) n (take 16 l) (drop 16 l))
    (plus-block (inv_cipher w (take 16 l)) before (inv_cipher-block w (take 16 l) (bytes_take 16 l hl)).bytes hb).bytes
    (unchained-bytes w n (take 16 l) (drop 16 l) (bytes_take 16 l hl) (bytes_drop 16 l hl))

absorbed-block : (w : List ℕ) (n : ℕ) (before l : List ℕ) → Block before → Bytes l
    → Block (absorbed w n before l)
unfolding absorbed
absorbed-block w zero before l hb hl = hb
absorbed-block w (suc n) before l hb hl =
    absorbed-block w n (next w before l) (drop 16 l) (next-block w before l hb.bytes hl) (bytes_drop 16 l hl)

module _ (w iv l : List ℕ) where
  pub cbc_encrypt-length : length (cbc_encrypt w iv l) ≡ length l
  unfolding cbc_encrypt
  cbc_encrypt-length = chained-length w (length l / 16) iv l (omega arith)

  pub cbc_encrypt-bytes : Bytes iv → Bytes l → Bytes (cbc_encrypt w iv l)
  unfolding cbc_encrypt
  cbc_encrypt-bytes = chained-bytes w (length l / 16) iv l

  pub cbc_decrypt-length : length (cbc_decrypt w iv l) ≡ length l
  unfolding cbc_decrypt
  cbc_decrypt-length = unchained-length w (length l / 16) iv l (omega arith)

  pub cbc_decrypt-bytes : Bytes iv → Bytes l → Bytes (cbc_decrypt w iv l)
  unfolding cbc_decrypt
  cbc_decrypt-bytes = unchained-bytes w (length l / 16) iv l

  pub cbc_decrypt-cbc_encrypt : Bytes iv → Bytes l → cbc_decrypt w iv (cbc_encrypt w iv l) ≡ l
  unfolding cbc_decrypt cbc_encrypt
  cbc_decrypt-cbc_encrypt hb hl =
      ap (λ (n : ℕ). unchained (inv_cipher w) (n / 16) iv (cbc_encrypt w iv l)) cbc_encrypt-length
      ∙ unchained-chained w (length l / 16) iv l (omega arith) hb hl

  pub last_of_chain-block : Block iv → Bytes l → Block (last_of_chain w iv l)
  unfolding last_of_chain
  last_of_chain-block = absorbed-block w (length l / 16) iv l
