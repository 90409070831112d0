-- Words of four bytes, and what a table that mixes columns holds for each byte (FIPS 197, sections 3.5 and 5.1.3).
use Rattle.std.specs.Prelude.{ℕ, ◌+◌, ◌*◌}
use Rattle.field.specs.Field.{◌•◌, sub_byte, inv_sub_byte}

-- A word of four bytes, the first one highest (3.5).
unfoldable pub word : ℕ → ℕ → ℕ → ℕ → ℕ
word a b c d = a * 16777216 + b * 65536 + c * 256 + d

-- The third row's share in a column: y times the matrix's third column, where m0 m1 m2 m3 is its first row and each row
-- below is turned right by one.
-- (The third, since in MixColumns its last byte is y itself.)
unfoldable pub share : ℕ → ℕ → ℕ → ℕ → ℕ → ℕ
share m0 m1 m2 m3 y = word (m2 • y) (m1 • y) (m0 • y) (m3 • y)

-- SubBytes and then MixColumns of a byte of the third row (5.1.3).
unfoldable pub mixed_entry : ℕ → ℕ
mixed_entry b = share 2 3 1 1 (sub_byte b)

-- InvSubBytes and then InvMixColumns of a byte of the third row (5.3.3).
unfoldable pub unmixed_entry : ℕ → ℕ
unmixed_entry b = share 14 11 13 9 (inv_sub_byte b)
