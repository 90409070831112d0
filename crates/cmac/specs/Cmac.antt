-- The MAC of a list of bytes of any length, under the words of a key schedule (SP 800-38B, section 6.2).
use Rattle.std.specs.Prelude.{List, ◌∷◌, ◌++◌, ◌≡◌, ℕ, ◌-◌, ◌*◌, ◌/◌, ◌≤◌, eqb, length, take, drop}
use Rattle.lists.specs.If.{if}
use Rattle.lists.specs.Bytes.{zeros}
use Rattle.aes_standard.specs.State.{plus}
use Rattle.aes_standard.specs.Cipher.{cipher}
use Rattle.aes_standard.specs.Chain.{last_of_chain}
use Rattle.cmac.specs.Subkeys.{subkey1, subkey2}

-- How many bytes stand before the last block, which is empty only where there are none at all.
unfoldable pub before_last : ℕ → ℕ
before_last n = (n - 1) / 16 * 16

-- r bytes of n stand before the last block, which has at most sixteen.
pub record Before (n r : ℕ) : Type 0 where
  pub is : r ≡ before_last n
  pub within : r ≤ n
  pub left : n - r ≤ 16

-- An incomplete last block: a digit 1 and then zeros behind it.
unfoldable pub padded : List ℕ → List ℕ
padded m = m ++ (0x80 ∷ zeros (15 - length m))

-- The last block, whole with K1 added, or padded with K2 added.
unfoldable pub last_block : List ℕ → List ℕ → List ℕ → List ℕ
last_block k1 k2 m = if (eqb (length m) 16) (plus m k1) (plus (padded m) k2)

-- The MAC: the chain over the blocks before the last from a block of zeros, then the last block added and enciphered.
unfoldable pub cmac : List ℕ → List ℕ → List ℕ
cmac w m =
    let n = before_last (length m) in
    cipher w (plus (last_of_chain w (zeros 16) (take n m)) (last_block (subkey1 w) (subkey2 w) (drop n m)))
