-- The line key, the MACs of lines, and sealed data lines (document 01, 'Protected lines'); a DRK is a list of sixteen
-- bytes, the highest first.
use Rattle.std.specs.Prelude.{List, [], ◌∷◌, ◌++◌, ℕ}
use Rattle.lists.specs.Bytes.{zeros}
use Rattle.lists.specs.Words.{big_bytes}
use Rattle.aes_standard.specs.Schedule.{key_expansion}
use Rattle.aes_standard.specs.Cipher.{cipher}
use Rattle.aes_standard.specs.Chain.{cbc_encrypt, cbc_decrypt}
use Rattle.cmac.specs.Cmac.{cmac}
use Rattle.sealing.specs.declared.Drk.{Drk}

-- A DRK of two words, the high one first.
unfoldable pub drk_of : ℕ → ℕ → List ℕ
drk_of hi lo = big_bytes 8 hi ++ big_bytes 8 lo

-- The sixteen bytes of a DRK.
abbrev pub drk_in : Drk → List ℕ
drk_in k = drk_of k.high k.low

-- CMAC of any bytes under a DRK.
unfoldable pub mac_of : List ℕ → List ℕ → List ℕ
mac_of drk m = cmac (key_expansion drk) m

-- What is signed of a line: a byte that says what for, the line's address in eight bytes, high first, and the bytes.
unfoldable pub signed_text : ℕ → ℕ → List ℕ → List ℕ
signed_text prefix address bytes = prefix ∷ (big_bytes 8 address ++ bytes)

-- Line key = CMAC(DRK, byte 1).
unfoldable pub line_key : List ℕ → List ℕ
line_key drk = mac_of drk (1 ∷ [])

-- Code MAC = CMAC(DRK, byte 2, line address in eight bytes, 48 code bytes).
unfoldable pub code_mac : List ℕ → ℕ → List ℕ → List ℕ
code_mac drk address code = mac_of drk (signed_text 2 address code)

-- The MAC of a data line = CMAC(DRK, byte 3, address, 64 encrypted bytes).
unfoldable pub data_mac : List ℕ → ℕ → List ℕ → List ℕ
data_mac drk address line = mac_of drk (signed_text 3 address line)

-- The initialization vector of a data line: AES under the line key of eight zero bytes, then the address.
unfoldable pub start_vector : List ℕ → ℕ → List ℕ
start_vector drk address = cipher (key_expansion (line_key drk)) (zeros 8 ++ big_bytes 8 address)

-- A data line sealed: CBC over its bytes under the line key.
unfoldable pub enciphered : List ℕ → ℕ → List ℕ → List ℕ
enciphered drk address line = cbc_encrypt (key_expansion (line_key drk)) (start_vector drk address) line

-- A data line opened.
unfoldable pub deciphered : List ℕ → ℕ → List ℕ → List ℕ
deciphered drk address line = cbc_decrypt (key_expansion (line_key drk)) (start_vector drk address) line
