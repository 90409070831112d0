-- What the machine uses of the ciphers: the operations only. Keys, addresses and texts go in, bytes come out; nobody
-- above looks inside.
use Rattle.std.specs.Prelude.{ℕ, List}

-- the operations of the ciphers
pub record Cipher : Type 0 where
  -- the 64 bytes of a data line, enciphered under the DRK for the line's address
  pub encipher : List ℕ → ℕ → List ℕ → List ℕ
  -- the 64 bytes of a data line, deciphered under the DRK for the line's address
  pub decipher : List ℕ → ℕ → List ℕ → List ℕ
  -- the MAC of the 64 enciphered bytes of a data line, under the DRK and the line's address
  pub data_mac : List ℕ → ℕ → List ℕ → List ℕ
  -- the MAC of the 48 code bytes of a code line, under the DRK and the line's address
  pub code_mac : List ℕ → ℕ → List ℕ → List ℕ
  -- the MAC of any bytes under the DRK
  pub mac : List ℕ → List ℕ → List ℕ
  -- the 256 bytes of key stream that hide the registers, from the DRK and the Interrupt_Hash
  pub stream : List ℕ → List ℕ → List ℕ
