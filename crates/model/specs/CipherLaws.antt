-- What the machine relies on of the ciphers: sizes from sizes, bytes from bytes, and that a sealed line opens again.
use Rattle.std.specs.Prelude.{ℕ, ◌≡◌, List, length}
use Rattle.lists.specs.Bytes.{Bytes}
use Rattle.model.specs.Cipher.{Cipher}

-- a list of k bytes
pub record Sized (k : ℕ) (l : List ℕ) : Type 0 where
  pub size : length l ≡ k
  pub bytes : Bytes l

-- the laws of the ciphers
pub record CipherLaws (c : Cipher) : Type 0 where
  pub encipher-length : (k : List ℕ) (a : ℕ) (l : List ℕ) → length l ≡ 64
      → length (c.encipher k a l) ≡ 64
  pub decipher-length : (k : List ℕ) (a : ℕ) (l : List ℕ) → length l ≡ 64
      → length (c.decipher k a l) ≡ 64
  pub data_mac-length : (k : List ℕ) (a : ℕ) (l : List ℕ) → length l ≡ 64 → length (c.data_mac k a l) ≡ 16
  pub mac-length : (k l : List ℕ) → length (c.mac k l) ≡ 16
  pub stream-length : (k h : List ℕ) → length h ≡ 16 → length (c.stream k h) ≡ 256
  pub encipher-bytes : (k : List ℕ) (a : ℕ) (l : List ℕ) → Sized 16 k → Sized 64 l
      → Bytes (c.encipher k a l)
  pub decipher-bytes : (k : List ℕ) (a : ℕ) (l : List ℕ) → Sized 16 k → Sized 64 l
      → Bytes (c.decipher k a l)
  -- a sealed line opens again
  pub decipher-encipher : (k : List ℕ) (a : ℕ) (l : List ℕ) → Sized 16 k → Sized 64 l
      → c.decipher k a (c.encipher k a l) ≡ l
