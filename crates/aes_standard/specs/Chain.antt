-- Cipher block chaining over the whole blocks of a list of bytes (SP 800-38A, section 6.2); bytes behind the last whole
-- block are left as they are.
use Rattle.std.specs.Prelude.{List, ◌++◌, ℕ, zero, suc, ◌/◌, length, take, drop}
use Rattle.aes_standard.specs.State.{plus}
use Rattle.aes_standard.specs.Cipher.{cipher, inv_cipher}

-- CBC encryption of the first n blocks, after the block before: each block is added to the cipher of the one before it
-- and enciphered.
unfoldable pub chained : List ℕ → ℕ → List ℕ → List ℕ → List ℕ
chained w zero before l = l
chained w (suc n) before l =
    let c = cipher w (plus before (take 16 l)) in
    c ++ chained w n c (drop 16 l)

-- CBC decryption of the first n blocks by an inverse cipher, after the block before: each block is deciphered and added
-- to the one before it.
unfoldable pub unchained : (List ℕ → List ℕ) → ℕ → List ℕ → List ℕ → List ℕ
unchained inv zero before l = l
unchained inv (suc n) before l = plus (inv (take 16 l)) before ++ unchained inv n (take 16 l) (drop 16 l)

-- The last block of the chain over the first n blocks, after the block before: what a CBC-MAC is made of (SP 800-38B,
-- section 6.2).
unfoldable pub absorbed : List ℕ → ℕ → List ℕ → List ℕ → List ℕ
absorbed w zero before l = before
absorbed w (suc n) before l = absorbed w n (cipher w (plus before (take 16 l))) (drop 16 l)

-- CBC encryption of the whole blocks of a list under an initialization vector.
unfoldable pub cbc_encrypt : List ℕ → List ℕ → List ℕ → List ℕ
cbc_encrypt w iv l = chained w (length l / 16) iv l

-- CBC decryption of the whole blocks of a list under an initialization vector.
unfoldable pub cbc_decrypt : List ℕ → List ℕ → List ℕ → List ℕ
cbc_decrypt w iv l = unchained (inv_cipher w) (length l / 16) iv l

-- The last block of the chain over all whole blocks of a list.
unfoldable pub last_of_chain : List ℕ → List ℕ → List ℕ → List ℕ
last_of_chain w before l = absorbed w (length l / 16) before l
