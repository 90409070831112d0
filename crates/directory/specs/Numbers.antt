-- A directory number: 0 for empty; otherwise bit 0 is 1, bits 1-2 the tag, bit 3 dirty, bits 4-13 the line, the rest 0.
use Rattle.std.specs.Prelude.{ℕ, ◌+◌, ◌*◌, ◌/◌, ◌%◌, Bool, ◌&&◌, ◌||◌, eqb, leb, ltb}
use Rattle.lists.specs.If.{if}
use Rattle.model.specs.Tags.{Tag, no_tag, secure_instruction, secure_data, tag_number}
use Rattle.model.specs.Placement.{Entry}

-- bit 0: is the slot used?
unfoldable pub used_of : ℕ → Bool
used_of d = eqb (d % 2) 1

-- bits 1-2: 0 none, 1 Secure Instruction, 2 Secure Data
unfoldable pub tag_of : ℕ → Tag
tag_of d = if (eqb (d / 2 % 4) 1) secure_instruction (if (eqb (d / 2 % 4) 2) secure_data no_tag)

-- bit 3: is the line dirty?
unfoldable pub dirty_of : ℕ → Bool
dirty_of d = eqb (d / 8 % 2) 1

-- bits 4-13: the line
unfoldable pub line_of : ℕ → ℕ
line_of d = d / 16 % 1024

-- what the number says
unfoldable pub entry_of : ℕ → Entry
entry_of d = record { used = used_of d; line = line_of d; tag = tag_of d; dirty = dirty_of d }

-- the number for an entry
unfoldable pub number_of : Entry → ℕ
number_of e = if e.used (1 + 2 * tag_number e.tag + 8 * (if e.dirty 1 0) + 16 * e.line) 0

-- is this a directory number at all: 0, or bit 0 set, a tag that exists, and nothing above bit 13?
unfoldable pub is_number : ℕ → Bool
is_number d = eqb d 0 || (used_of d && (leb (d / 2 % 4) 2 && ltb d 16384))
