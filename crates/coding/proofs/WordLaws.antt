-- Fields put side by side are the fields of the word.
use Prim.Native.Nat.{ℕ, ◌+◌, ◌*◌, ◌<◌}
use native.Mathlib.Omega.{arith}
use Rattle.instructions.specs.Fields.{opcode, field_a, field_b}
use Rattle.coding.specs.Words.{Fields, Named}

pub side_by_side : (op a b low : ℕ) → op < 64 → a < 32 → b < 32 → low < 65536
    → Fields op a b low (op * 67108864 + a * 2097152 + b * 65536 + low)
unfolding opcode field_a field_b
side_by_side op a b low ho ha hb hl =
    record { opcode = omega arith; first = omega arith; second = omega arith; rest = omega arith }

pub named : {op a b low w : ℕ} → Fields op a b low w → Named op a w
named f = record { opcode = f.opcode; first = f.first }
