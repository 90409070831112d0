-- The depot: code lines are signed, and data lines sealed or opened, in their buffers, under a given DRK and address.
use Rattle.std.specs.Prelude.{ℕ, ◌%◌, Bool, not, List, [], ◌∷◌, ◌++◌, take, eqb}
use Rattle.lists.specs.If.{if}
use Rattle.lists.specs.Bytes.{same}
use Rattle.model.specs.Cipher.{Cipher}
use Rattle.instructions.specs.Rules.{first_of}
use Rattle.instructions.specs.Refusals.{buffer_flaws}

-- the answer, and the later bytes of the line's and the MAC's buffer
pub record Sealed : Type 0 where
  pub answer : ℕ
  pub line : List ℕ
  pub mac : List ℕ

-- 106 a depot address not a multiple of 64; 107 a buffer not 64 bytes, or a MAC not 16
unfoldable pub depot_flaws : ℕ → List ℕ → List ℕ → List (Bool × ℕ)
depot_flaws a line mac = (not (eqb (a % 64) 0), 106) ∷ (buffer_flaws 64 line ++ buffer_flaws 16 mac)

-- sign a code line: the MAC of its 48 code bytes goes into its last 16
unfoldable pub depot_sign : Cipher → List ℕ → ℕ → List ℕ → Sealed
depot_sign c key a line =
    let n = first_of ((not (eqb (a % 64) 0), 106) ∷ buffer_flaws 64 line) in
    record { answer = n; line = if (eqb n 0) (take 48 line ++ c.code_mac key a (take 48 line)) line; mac = [] }

-- seal a data line: its bytes are enciphered, and the MAC is that of the enciphered bytes
unfoldable pub depot_seal : Cipher → List ℕ → ℕ → List ℕ → List ℕ → Sealed
depot_seal c key a line mac =
    let n = first_of (depot_flaws a line mac) in
    let enciphered = c.encipher key a line in
    record { answer = n; line = if (eqb n 0) enciphered line; mac = if (eqb n 0) (c.data_mac key a enciphered) mac }

-- open a data line: 109 where its MAC is wrong; otherwise its bytes are deciphered
unfoldable pub depot_open : Cipher → List ℕ → ℕ → List ℕ → List ℕ → Sealed
depot_open c key a line mac =
    let n = first_of (depot_flaws a line mac ++ ((not (same (c.data_mac key a line) mac), 109) ∷ [])) in
    record { answer = n; line = if (eqb n 0) (c.decipher key a line) line; mac = mac }
