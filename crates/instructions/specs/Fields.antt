-- The fields of a 32-bit instruction word, and what the table of opcodes says of it.
use Rattle.std.specs.Prelude.{ℕ, ◌+◌, ◌-◌, ◌/◌, ◌%◌, Bool, not, get_or, eqb, leb}
use Rattle.lists.specs.If.{if}
use Rattle.instructions.specs.Board.{Board, modulus}

-- bits 31-26: the opcode
unfoldable pub opcode : ℕ → ℕ
opcode w = w / 67108864 % 64

-- bits 25-21: the register a
unfoldable pub field_a : ℕ → ℕ
field_a w = w / 2097152 % 32

-- bits 20-16: the register b
unfoldable pub field_b : ℕ → ℕ
field_b w = w / 65536 % 32

-- bits 15-11: the register c
unfoldable pub field_c : ℕ → ℕ
field_c w = w / 2048 % 32

-- bits 15-0, signed, as a word
unfoldable pub imm : Board → ℕ → ℕ
imm B w = if (leb 32768 (w % 65536)) (modulus B - 65536 + w % 65536) (w % 65536)

-- bits 2-0: sel
unfoldable pub sel : ℕ → ℕ
sel w = w % 8

-- does the opcode exist?
unfoldable pub exists : Board → ℕ → Bool
exists B w = not (eqb (get_or B.opcodes (opcode w) 0) 0)

-- does the opcode need active mode?
unfoldable pub needs_active : Board → ℕ → Bool
needs_active B w = eqb (get_or B.opcodes (opcode w) 0) 2
