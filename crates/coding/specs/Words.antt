-- The instruction words of a board file, by document 01's fields.
use Rattle.std.specs.Prelude.{ℕ, ◌%◌, ◌≡◌}
use Rattle.instructions.specs.Fields as document

-- a word whose opcode, registers a and b and low 16 bits are these
pub record Fields (op a b low w : ℕ) : Type 0 where
  pub opcode : document.opcode w ≡ op
  pub first : document.field_a w ≡ a
  pub second : document.field_b w ≡ b
  pub rest : w % 65536 ≡ low

-- a word of an opcode whose register a is the first operand
pub record Named (op x w : ℕ) : Type 0 where
  pub opcode : document.opcode w ≡ op
  pub first : document.field_a w ≡ x
