-- Lines of memory, entries of the MAC area and slots of the cache as parts of their buffers, and what a tag makes of a
-- line.
use Rattle.std.specs.Prelude.{ℕ, ◌*◌, Bool, true, List, take}
use Rattle.lists.specs.Parts.{part_at, put_at}
use Rattle.lists.specs.Bytes.{same}
use Rattle.model.specs.Tags.{Tag, no_tag, secure_instruction, secure_data}
use Rattle.model.specs.Cipher.{Cipher}

-- the 64 bytes of line n of a memory, or of slot n of the cache's data bytes
unfoldable pub line_at : ℕ → List ℕ → List ℕ
line_at n m = part_at (n * 64) 64 m

-- the memory, or the cache's data bytes, with line or slot n replaced
unfoldable pub put_line : ℕ → List ℕ → List ℕ → List ℕ
put_line n x m = put_at (n * 64) 64 x m

-- the 16 bytes of line n in the MAC area
unfoldable pub mac_at : ℕ → List ℕ → List ℕ
mac_at n m = part_at (n * 16) 16 m

-- the MAC area with the entry of line n replaced
unfoldable pub put_mac : ℕ → List ℕ → List ℕ → List ℕ
put_mac n x m = put_at (n * 16) 16 x m

-- what an access under the tag sees of the stored line n: a data line is opened
unfoldable pub seen : Cipher → Tag → List ℕ → ℕ → List ℕ → List ℕ
seen c no_tag key n line = line
seen c secure_instruction key n line = line
seen c secure_data key n line = c.decipher key (n * 64) line

-- what is stored of line n for the bytes that the tag sees: a data line is sealed
unfoldable pub stored : Cipher → Tag → List ℕ → ℕ → List ℕ → List ℕ
stored c no_tag key n body = body
stored c secure_instruction key n body = body
stored c secure_data key n body = c.encipher key (n * 64) body

-- the MAC entry of line n once the stored line is written under the tag: a data line is signed, any other leaves the
-- entry
unfoldable pub signed : Cipher → Tag → List ℕ → ℕ → List ℕ → List ℕ → List ℕ
signed c no_tag key n line mac = mac
signed c secure_instruction key n line mac = mac
signed c secure_data key n line mac = c.data_mac key (n * 64) line

-- does the stored line n pass the check of the tag? A code line's MAC stands in its last 16 bytes, a data line's in the
-- MAC area
unfoldable pub passes : Cipher → Tag → List ℕ → ℕ → List ℕ → List ℕ → Bool
passes c no_tag key n line mac = true
passes c secure_instruction key n line mac = same (c.code_mac key (n * 64) (take 48 line)) (part_at 48 16 line)
passes c secure_data key n line mac = same (c.data_mac key (n * 64) line) mac
