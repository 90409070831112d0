-- The subkeys of CMAC (SP 800-38B, section 6.1).
use Rattle.std.specs.Prelude.{List, [], ◌∷◌, ℕ, ◌+◌, ◌*◌, ◌/◌, ◌%◌, drop}
use Rattle.lists.specs.Bytes.{zeros}
use Rattle.aes_standard.specs.State.{at, state, plus}
use Rattle.aes_standard.specs.Cipher.{cipher}

-- A block shifted to the left by one digit: each byte doubled, with the highest digit of the byte behind it.
unfoldable pub shifted : List ℕ → List ℕ
shifted b = state (λ i. at b i % 128 * 2 + at (drop 1 (state (at b))) i / 128)

-- A block that is zero but for its last byte.
unfoldable pub last_byte : ℕ → List ℕ
last_byte x = 0 ∷ 0 ∷ 0 ∷ 0 ∷ 0 ∷ 0 ∷ 0 ∷ 0 ∷ 0 ∷ 0 ∷ 0 ∷ 0 ∷ 0 ∷ 0 ∷ 0 ∷ x ∷ []

-- The next subkey: the block shifted, with 87 added to its last byte where its highest digit was set.
unfoldable pub doubled : List ℕ → List ℕ
doubled b = plus (shifted b) (last_byte (at b 0 / 128 * 0x87))

-- K1: the cipher of a block of zeros, doubled once.
unfoldable pub subkey1 : List ℕ → List ℕ
subkey1 w = doubled (cipher w (zeros 16))

-- K2: K1 doubled once more.
unfoldable pub subkey2 : List ℕ → List ℕ
subkey2 w = doubled (subkey1 w)
